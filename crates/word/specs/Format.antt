-- The fields of a 37-bit word: X4 to X0, Y15 to Y0, Z15 to Z0 (ISO 14819-1, clauses 7.2 and 7.4; document 01, "The 37-bit word").
use Rattle.std.specs.Prelude.{ℕ, ◌^◌, List, [], ◌∷◌, get_or}
use Rattle.bits.specs.Bits.{bits}
use Rattle.bits.specs.Fields.{unpack}
use Rattle.word.specs.declared.Head.{Head}

-- words are the numbers below this
abbrev pub limit : ℕ
limit = 2 ^ 37

-- Y14 direction, Y13..Y11 extent, Y10..Y0 event, Z location (clause 7.4, table 5)
abbrev pub head_part : List ℕ
head_part = 1 ∷ 3 ∷ 11 ∷ 16 ∷ []

-- X4 (T), X3 (F), X2..X0, Y15, then the head
abbrev pub head_format : List ℕ
head_format = 1 ∷ 1 ∷ 3 ∷ 1 ∷ head_part

-- X4 (T), X3 (F), X2..X0, Y15, then second-group mark, groups still to come (GSI) and 28 content bits (clause 9.4.3)
abbrev pub later_format : List ℕ
later_format = 1 ∷ 1 ∷ 3 ∷ 1 ∷ 1 ∷ 2 ∷ 28 ∷ []

-- a word's fields, by each of the two formats
unfoldable pub head_fields : ℕ → List ℕ
head_fields n = unpack head_format (bits 37 n)

unfoldable pub later_fields : ℕ → List ℕ
later_fields n = unpack later_format (bits 37 n)

-- the fields by name: those that the two formats share
abbrev pub flag_t : List ℕ → ℕ
flag_t f = get_or f 0 0

abbrev pub flag_f : List ℕ → ℕ
flag_f f = get_or f 1 0

abbrev pub low_x : List ℕ → ℕ
low_x f = get_or f 2 0

abbrev pub top_y : List ℕ → ℕ
top_y f = get_or f 3 0

-- those of the head
abbrev pub direction_in : List ℕ → ℕ
direction_in f = get_or f 4 0

abbrev pub extent_in : List ℕ → ℕ
extent_in f = get_or f 5 0

abbrev pub event_in : List ℕ → ℕ
event_in f = get_or f 6 0

abbrev pub location_in : List ℕ → ℕ
location_in f = get_or f 7 0

abbrev pub head_of : List ℕ → Head
head_of f = record { direction = direction_in f; extent = extent_in f; event = event_in f; location = location_in f }

-- those of a later group
abbrev pub mark_in : List ℕ → ℕ
mark_in f = get_or f 4 0

abbrev pub gsi_in : List ℕ → ℕ
gsi_in f = get_or f 5 0

abbrev pub content_in : List ℕ → ℕ
content_in f = get_or f 6 0
