-- A Fast Information Block (document 02, R-2; source 000, clause 3.1; EN 300 401, 5.2.1): a data field of 30 bytes, which holds FIGs, and
-- a check word of two.
use Rattle.std.specs.Prelude.{ℕ}
use Rattle.fib.specs.declared.Fib.{Fib}

-- the bytes of a block
abbrev pub block_length : ℕ
block_length = 32

-- the most words that its FIGs carry: 14 of 16 bits, in one FIG (source 000, clause 5.2)
abbrev pub most_words : ℕ
most_words = 14

-- the byte that ends the FIGs where a header could stand
abbrev pub end_marker : ℕ
end_marker = 0xFF

-- nothing was read yet
abbrev pub unread : Fib
unread = record { count = 0; at = 0 }
