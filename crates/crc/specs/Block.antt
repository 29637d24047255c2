-- A block of bytes that ends with a check word (document 01, "DRM"; source 002, "CRC"): its last two bytes are the check word of those
-- before, high byte first.
use Rattle.std.specs.Prelude.{ℕ, ◌-◌, Bool, cond, ◌&&◌, List, ◌++◌, length, take, drop, leb, eqb}
use Rattle.bits.specs.Bits.{bits, val}
use Rattle.bits.specs.Fields.{flat, words}
use Rattle.crc.specs.Register.{check_word}

-- the bytes of a check word
abbrev pub check_length : ℕ
check_length = 2

-- the bytes before the check word, and the check word
abbrev pub payload : List ℕ → List ℕ
payload s = take (length s - check_length) s

abbrev pub check_in : List ℕ → ℕ
check_in s = val (flat 8 (drop (length s - check_length) s))

-- the check word of a block is that of its payload; fewer than two bytes are no block
unfoldable pub is_checked : List ℕ → Bool
is_checked s = leb check_length (length s) && eqb (check_in s) (check_word (payload s))

-- some bytes and their check word
abbrev pub checked : List ℕ → List ℕ
checked p = p ++ words 8 check_length (bits 16 (check_word p))

-- a block after its check word was put in; fewer than two bytes stay
unfoldable pub with_check : List ℕ → List ℕ
with_check s = cond (leb check_length (length s)) (checked (payload s)) s
