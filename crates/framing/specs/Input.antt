-- Bytes that are kept until more are there.
use Rattle.std.specs.Prelude.{ℕ, ◌-◌, List, ◌++◌, length, drop}

-- the bytes from an index on at the front, and the cells after them as they were
abbrev pub kept : ℕ → List ℕ → List ℕ
kept from l = drop from l ++ drop (length l - from) l
