-- References to telephone services: ISO 14819-1 clauses 5.5.15 and 5.5.16.
use Rattle.std.specs.Prelude.{ℕ, Bool, ◌||◌, List, [], ◌∷◌, eqb}

-- 5.5.15: the sub-labels that are defined; after both a telephone number follows
abbrev pub defined : ℕ → Bool
defined sublabel = eqb sublabel 1 || eqb sublabel 2

-- 5.5.16.2: what a code of a telephone number says: a character, in ASCII; that codes of the other table follow; that options follow; the end
pub data Code : Type 0 where
  shown : ℕ → Code
  letters_follow : Code
  numbers_follow : Code
  option_letters : Code
  option_numbers : Code
  end : Code

-- Table 2, codes 0 to 15: the digits, + # *
unfoldable pub number_codes : List Code
number_codes =
    shown 48 ∷ shown 49 ∷ shown 50 ∷ shown 51 ∷ shown 52 ∷ shown 53 ∷ shown 54 ∷ shown 55 ∷ shown 56 ∷ shown 57
    ∷ shown 43 ∷ shown 35 ∷ shown 42 ∷ letters_follow ∷ option_numbers ∷ end ∷ []

-- Table 3, codes 0 to 31: the letters A to Z, space and dash
unfoldable pub letter_codes : List Code
letter_codes =
    numbers_follow
    ∷ shown 65 ∷ shown 66 ∷ shown 67 ∷ shown 68 ∷ shown 69 ∷ shown 70 ∷ shown 71 ∷ shown 72 ∷ shown 73 ∷ shown 74 ∷ shown 75 ∷ shown 76 ∷ shown 77
    ∷ shown 78 ∷ shown 79 ∷ shown 80 ∷ shown 81 ∷ shown 82 ∷ shown 83 ∷ shown 84 ∷ shown 85 ∷ shown 86 ∷ shown 87 ∷ shown 88 ∷ shown 89 ∷ shown 90
    ∷ shown 32 ∷ shown 45 ∷ option_letters ∷ option_numbers ∷ end ∷ []

-- 5.5.16.3, Table 4: the time units, free and variable, with which no cost is sent
abbrev pub costless : ℕ → Bool
costless unit = eqb unit 0 || eqb unit 6
