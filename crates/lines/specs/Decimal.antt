-- A number in decimal digits, as ASCII characters.
use Rattle.std.specs.Prelude.{ℕ, zero, suc, ◌+◌, ◌/◌, ◌%◌, cond, List, [], ◌∷◌, ◌++◌, ltb}

-- the character of a digit: `0` is 48
abbrev pub digit : ℕ → ℕ
digit d = 48 + d

-- a number by a bound on its digits that no number meets
unfoldable pub spelled : ℕ → ℕ → List ℕ
spelled zero n = digit n ∷ []
spelled (suc more) n = cond (ltb n 10) (digit n ∷ []) (spelled more (n / 10) ++ digit (n % 10) ∷ [])

-- to be read by its law, `decimal_law` in proofs/Decimals.antt: a number below ten is its digit, and any other is the number of its
-- tens and then the last digit
unfoldable pub decimal : ℕ → List ℕ
decimal n = spelled n n
