-- ISO 14819-1 clause 5.5.16.2, Table 3, column "Dialled number".
use Rattle.std.specs.Prelude.{ℕ, ◌-◌, cond, List, [], ◌∷◌, get_or, ltb}

-- the keys of A to Z, in ASCII
unfoldable pub keys : List ℕ
keys =
    50 ∷ 50 ∷ 50 ∷ 51 ∷ 51 ∷ 51 ∷ 52 ∷ 52 ∷ 52 ∷ 53 ∷ 53 ∷ 53 ∷ 54 ∷ 54 ∷ 54
    ∷ 55 ∷ 55 ∷ 55 ∷ 55 ∷ 56 ∷ 56 ∷ 56 ∷ 57 ∷ 57 ∷ 57 ∷ 57 ∷ []

-- the key of a character of Table 3; space and dash, which stand before A in ASCII, are not dialled
unfoldable pub letter_key : ℕ → ℕ
letter_key c = cond (ltb c 65) 0 (get_or keys (c - 65) 0)
