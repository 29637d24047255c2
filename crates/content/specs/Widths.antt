-- The labels of optional content and the widths of their values: ISO 14819-1 clause 5.5.1; document 01, "Multi-group content".
use Rattle.std.specs.Prelude.{ℕ, List, [], ◌∷◌, get_or}

-- bits of a label
abbrev pub label_width : ℕ
label_width = 4

-- bits of the values of labels 0 to 14
unfoldable pub widths : List ℕ
widths = 3 ∷ 3 ∷ 5 ∷ 5 ∷ 5 ∷ 8 ∷ 8 ∷ 8 ∷ 8 ∷ 11 ∷ 16 ∷ 16 ∷ 16 ∷ 16 ∷ 0 ∷ []

-- bits of a label's value
unfoldable pub width : ℕ → ℕ
width label = get_or widths label 0

-- the label that a sub-label follows: no item has it
abbrev pub sublabelled : ℕ
sublabelled = 15
