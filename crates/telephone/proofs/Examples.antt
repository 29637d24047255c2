-- What the places of whole references mean, computed.
use Prim.Native.Nat.{ℕ, ◌+◌, ◌*◌}
use mathlib.Core.Path.{◌≡◌, refl}
use mathlib.Core.Bool.{cond}
use mathlib.Core.List.{List, [], ◌∷◌, map}
use lib.Dec.{eqb}
use Rattle.labels.specs.Telephone.{number_codes, letter_codes}
use Rattle.labels.specs.Rows.{label_rows, code_row, cost_rows, rows, width, due, next}
use Rattle.telephone.specs.Keys.{keys, letter_key}
use Rattle.telephone.specs.Meaning.{nothing, item, telephone, character, options, switch, ended, costs, in_currency, sign_of, is_place, meaning_of}
use Rattle.telephone.specs.declared.Meaning.{Meaning}

-- names what the rows' widths and meanings compute with
unfoldable pub computing : Unit {0}
unfolding number_codes letter_codes label_rows code_row cost_rows rows width due next keys letter_key sign_of is_place meaning_of
computing = tt

-- what rows and values mean
unfoldable pub meanings : List (ℕ × ℕ) → List Meaning
unfolding computing
meanings = map (λ p. meaning_of p.0 p.1)

-- a field of the characters
abbrev pub text : (Meaning → ℕ) → List Meaning → List ℕ
text field [] = []
text field (m ∷ ms) = cond (eqb m.kind 3) (field m ∷ text field ms) (text field ms)

-- 911, free, to report to
pub emergency : meanings ((15, 2) ∷ (25, 0) ∷ (17, 0) ∷ (17, 0) ∷ (31, 0) ∷ [])
    ≡ telephone 2 ∷ character 57 57 ∷ character 49 49 ∷ character 49 49 ∷ ended 0 ∷ []
unfolding meanings
emergency = refl

-- 555-TRAFFIC, free, for information
abbrev pub traffic : List (ℕ × ℕ)
traffic =
    (15, 1) ∷ (21, 0) ∷ (21, 0) ∷ (21, 0) ∷ (29, 0) ∷ (60, 0) ∷ (52, 0) ∷ (50, 0) ∷ (33, 0) ∷ (38, 0) ∷ (38, 0) ∷ (41, 0) ∷ (35, 0) ∷ (63, 0) ∷ []

pub traffic_shown : text (λ m. m.character) (meanings traffic) ≡ 53 ∷ 53 ∷ 53 ∷ 45 ∷ 84 ∷ 82 ∷ 65 ∷ 70 ∷ 70 ∷ 73 ∷ 67 ∷ []
unfolding meanings
traffic_shown = refl

-- dialled 555 and 8723342, without the dash
pub traffic_dialled : text (λ m. m.dialled) (meanings traffic) ≡ 53 ∷ 53 ∷ 53 ∷ 0 ∷ 56 ∷ 55 ∷ 50 ∷ 51 ∷ 51 ∷ 52 ∷ 50 ∷ []
unfolding meanings
traffic_dialled = refl

-- 1234 at £0.10 per minute
pub priced : meanings ((15, 1) ∷ (17, 0) ∷ (18, 0) ∷ (19, 0) ∷ (20, 0) ∷ (31, 2) ∷ (64, 2 * 16384 + 10) ∷ (65, 256 + 49) ∷ [])
    ≡ telephone 1 ∷ character 49 49 ∷ character 50 50 ∷ character 51 51 ∷ character 52 52 ∷ ended 2 ∷ costs 2 10 ∷ in_currency 1 49 ∷ []
unfolding meanings
priced = refl

-- an item, option marks, and a switch to numbers
pub marks : meanings ((3, 10) ∷ (30, 0) ∷ (61, 0) ∷ (62, 0) ∷ (32, 0) ∷ []) ≡ item ∷ options ∷ options ∷ options ∷ switch ∷ []
unfolding meanings
marks = refl

-- no places: sub-labels that are not defined, values too wide, and a row too many
pub no_places : meanings ((15, 0) ∷ (15, 3) ∷ (16, 1) ∷ (31, 8) ∷ (65, 512) ∷ (66, 0) ∷ [])
    ≡ nothing ∷ nothing ∷ nothing ∷ nothing ∷ nothing ∷ nothing ∷ []
unfolding meanings
no_places = refl
