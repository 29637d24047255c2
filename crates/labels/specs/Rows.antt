-- The one table of labels, sub-labels and the codes of telephone references: ISO 14819-1 clauses 5.5.1, 5.5.15 and 5.5.16. Content is a run of
-- codes, each with a value as wide as the code's row says, and the row and the value tell what is due next.
use Rattle.std.specs.Prelude.{ℕ, ◌+◌, ◌||◌, cond, List, [], ◌∷◌, ◌++◌, map, get_or, eqb, ltb, Option, None, Some}
use Rattle.labels.specs.Telephone.{defined, Code, shown, letters_follow, numbers_follow, option_letters, option_numbers, end, number_codes, letter_codes, costless}
use Rattle.labels.specs.declared.rules.Edition.TheVariants.{Older, Newer}
use Rattle.labels.specs.declared.rules.Rules.{Rules}
use Rattle.labels.specs.declared.stage.Stage.{Stage}
use Rattle.labels.specs.declared.stage.Stage.TheVariants.{Labels, Numbers, Letters, Cost, Currency}

-- the first row of a stage: a code c at stage s is row first_row s + c
abbrev pub first_row : Stage → ℕ
first_row Labels = 0
first_row Numbers = 16
first_row Letters = 32
first_row Cost = 64
first_row Currency = 65

abbrev pub row_count : ℕ
row_count = 66

-- the label that a sub-label follows
abbrev pub sublabelled : ℕ
sublabelled = 15

-- bits of a stage's code: cost and currency have none
abbrev pub code_width : Stage → ℕ
code_width Labels = 4
code_width Numbers = 4
code_width Letters = 5
code_width Cost = 0
code_width Currency = 0

-- the same by the number of the first row; a number that is no stage's has the width of a label
abbrev pub code_width_at : ℕ → ℕ
code_width_at n = cond (eqb n 32) 5 (cond (eqb n 64 || eqb n 65) 0 4)

-- what is due after a value: a stage, or the value tells it, a sub-label or a time unit
pub data Due : Type 0 where
  stage : Stage → Due
  by_sublabel : Due
  by_time_unit : Due

-- bits of the value that follows a code, and what is due after it
pub record Row : Type 0 where
  pub width : ℕ
  pub due : Due

abbrev pub row : ℕ → Due → Row
row w d = record { width = w; due = d }

-- 5.5.1: labels 0 to 14, and 15, which a sub-label follows
unfoldable pub label_rows : List Row
label_rows =
    row 3 (stage Labels) ∷ row 3 (stage Labels) ∷ row 5 (stage Labels) ∷ row 5 (stage Labels) ∷ row 5 (stage Labels)
    ∷ row 8 (stage Labels) ∷ row 8 (stage Labels) ∷ row 8 (stage Labels) ∷ row 8 (stage Labels) ∷ row 11 (stage Labels)
    ∷ row 16 (stage Labels) ∷ row 16 (stage Labels) ∷ row 16 (stage Labels) ∷ row 16 (stage Labels) ∷ row 0 (stage Labels) ∷ row 6 by_sublabel ∷ []

-- 5.5.16.2 and 5.5.16.3: a code at a stage; after the end the time unit follows
unfoldable pub code_row : Stage → Code → Row
code_row s (shown c) = row 0 (stage s)
code_row s letters_follow = row 0 (stage Letters)
code_row s numbers_follow = row 0 (stage Numbers)
code_row s option_letters = row 0 (stage Letters)
code_row s option_numbers = row 0 (stage Numbers)
code_row s end = row 3 by_time_unit

-- 5.5.16.4: multiplier and cost, then position and currency
unfoldable pub cost_rows : List Row
cost_rows = row (2 + 14) (stage Currency) ∷ row (1 + 8) (stage Labels) ∷ []

unfoldable pub rows : List Row
rows = label_rows ++ (map (code_row Numbers) number_codes ++ (map (code_row Letters) letter_codes ++ cost_rows))

-- bits of a row's value, and what is due after it: past the last row no bits, and a label
unfoldable pub width : ℕ → ℕ
width r = (get_or rows r (row 0 (stage Labels))).width

unfoldable pub due : ℕ → Due
due r = (get_or rows r (row 0 (stage Labels))).due

-- what is due by a value: nothing after a sub-label that the clauses do not define
abbrev pub by_value : Due → ℕ → Option Stage
by_value (stage s) v = Some s
by_value by_sublabel v = cond (defined v) (Some Numbers) None
by_value by_time_unit v = cond (costless v) (Some Labels) (Some Cost)

-- what is due after a row and its value
unfoldable pub next : ℕ → ℕ → Option Stage
next r v = by_value (due r) v

-- the stage that a row belongs to; none past the last row
abbrev pub stage_of : ℕ → Option Stage
stage_of r =
    cond (ltb r 16) (Some Labels)
    (cond (ltb r 32) (Some Numbers)
    (cond (ltb r 64) (Some Letters)
    (cond (eqb r 64) (Some Cost)
    (cond (eqb r 65) (Some Currency) None))))

-- the first row of its stage; past the last row the row itself
abbrev pub stage_at : ℕ → ℕ
stage_at r = cond (ltb r 16) 0 (cond (ltb r 32) 16 (cond (ltb r 64) 32 r))

-- the rows of an edition: the older has labels 0 to 14 alone
abbrev pub rows_of : Rules → ℕ
rows_of rules = elim rules.edition [ Older ↦ 15 | Newer ↦ row_count ]
