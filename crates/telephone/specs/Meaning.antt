-- What a place of a report means, for a display: ISO 14819-1 clauses 5.5.1, 5.5.15 and 5.5.16.
use Rattle.std.specs.Prelude.{ℕ, ◌-◌, ◌/◌, ◌%◌, ◌^◌, Bool, ◌&&◌, cond, get_or, eqb, ltb, Some, None, is_some}
use Rattle.labels.specs.Telephone.{Code, shown, letters_follow, numbers_follow, option_letters, option_numbers, end, number_codes, letter_codes}
use Rattle.labels.specs.declared.stage.Stage.TheVariants as at
use Rattle.labels.specs.Rows.{first_row, sublabelled, row_count, width, next, stage_of}
use Rattle.telephone.specs.Keys.{letter_key}
use Rattle.telephone.specs.declared.Meaning.{Meaning}
use Rattle.telephone.specs.declared.sign.Sign.{Sign}
use Rattle.telephone.specs.declared.sign.Sign.TheVariants.{Item, Reference, Character, Options, Switch, End, Cost, Currency}

-- a kind alone
abbrev plain : ℕ → Meaning
plain k = record { kind = k; sublabel = 0; character = 0; dialled = 0; unit = 0; multiplier = 0; cost = 0; position = 0; currency = 0 }

abbrev pub nothing : Meaning
nothing = plain 0

-- 5.5.1: an item of labels 0 to 14
abbrev pub item : Meaning
item = plain 1

-- 5.5.15: a telephone reference begins
abbrev pub telephone : ℕ → Meaning
telephone s = record { kind = 2; sublabel = s; character = 0; dialled = 0; unit = 0; multiplier = 0; cost = 0; position = 0; currency = 0 }

-- 5.5.16.2: a character and its key; options follow; letters or numbers follow
abbrev pub character : ℕ → ℕ → Meaning
character c k = record { kind = 3; sublabel = 0; character = c; dialled = k; unit = 0; multiplier = 0; cost = 0; position = 0; currency = 0 }

abbrev pub options : Meaning
options = plain 4

abbrev pub switch : Meaning
switch = plain 5

-- 5.5.16.3: the number ends, with a time unit
abbrev pub ended : ℕ → Meaning
ended u = record { kind = 6; sublabel = 0; character = 0; dialled = 0; unit = u; multiplier = 0; cost = 0; position = 0; currency = 0 }

-- 5.5.16.4: a multiplier and 14 bits of cost; a position and 8 bits of currency
abbrev pub costs : ℕ → ℕ → Meaning
costs m c = record { kind = 7; sublabel = 0; character = 0; dialled = 0; unit = 0; multiplier = m; cost = c; position = 0; currency = 0 }

abbrev pub in_currency : ℕ → ℕ → Meaning
in_currency p c = record { kind = 8; sublabel = 0; character = 0; dialled = 0; unit = 0; multiplier = 0; cost = 0; position = p; currency = c }

-- what a sign means with a value
abbrev pub meaning_with : Sign → ℕ → Meaning
meaning_with Item v = item
meaning_with Reference v = telephone v
meaning_with (Character c k) v = character c k
meaning_with Options v = options
meaning_with Switch v = switch
meaning_with End v = ended v
meaning_with Cost v = costs (v / 2 ^ 14) (v % 2 ^ 14)
meaning_with Currency v = in_currency (v / 2 ^ 8) (v % 2 ^ 8)

-- the bits of the value that a sign has, as its row does
abbrev pub value_width : Sign → ℕ
value_width Item = 16
value_width Reference = 6
value_width (Character c k) = 0
value_width Options = 0
value_width Switch = 0
value_width End = 3
value_width Cost = 16
value_width Currency = 9

-- a code of a telephone number, by the keys of its table's characters
abbrev pub code_sign : (ℕ → ℕ) → Code → Sign
code_sign key (shown c) = Character c (key c)
code_sign key letters_follow = Switch
code_sign key numbers_follow = Switch
code_sign key option_letters = Options
code_sign key option_numbers = Options
code_sign key end = End

-- what a row says, by its stage: label 15 has sub-labels
unfoldable pub sign_of : ℕ → Sign
sign_of row =
    elim (stage_of row) [
      | Some s ↦ elim s [
        | at.Labels ↦ cond (eqb row sublabelled) Reference Item
        | at.Numbers ↦ code_sign (λ c. c) (get_or number_codes (row - first_row at.Numbers) end)
        | at.Letters ↦ code_sign letter_key (get_or letter_codes (row - first_row at.Letters) end)
        | at.Cost ↦ Cost
        | at.Currency ↦ Currency
      ]
      | None ↦ Item
    ]

-- a row and its value
abbrev pub row_meaning : ℕ → ℕ → Meaning
row_meaning row v = meaning_with (sign_of row) v

-- what a report can have: a row of the table with a value of its width; nothing is due after a sub-label that is not defined
unfoldable pub is_place : ℕ → ℕ → Bool
is_place row v = ltb row row_count && (ltb v (2 ^ width row) && is_some (next row v))

unfoldable pub meaning_of : ℕ → ℕ → Meaning
meaning_of row v = cond (is_place row v) (row_meaning row v) nothing
