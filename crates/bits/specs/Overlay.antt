-- A stretch of a bit string, and a bit string with a stretch replaced.
use Rattle.std.specs.Prelude.{ℕ, ◌+◌, Bool, List, ◌++◌, length, take, drop}

-- the w bits from a on
abbrev pub stretch : ℕ → ℕ → List Bool → List Bool
stretch a w l = take w (drop a l)

-- l with b in the place of as many bits from a on
abbrev pub overlay : ℕ → List Bool → List Bool → List Bool
overlay a b l = take a l ++ b ++ drop (a + length b) l
