-- Computed cases of whole FIBs (document 02, R-2; EN 300 401, 5.2.1): the answer and the two buffers.
use Rattle.std.specs.Prelude.{ℕ, List, [], ◌∷◌, ◌++◌, take, replicate, Result, Ok, Err}
use Rattle.refusal.specs.declared.Refusal.TheVariants.{WrongLength, Reserved, WrongCheckWord, SmallBuffer}
use Rattle.refusal.specs.declared.Refusal.{Refusal}
use Rattle.word.specs.Samples.{first401, later401}
use Rattle.fib.specs.declared.Reading.{Reading}
use Rattle.fib.specs.declared.Reading.TheVariants.{Whole, Stopped}
use Rattle.fib.specs.Read.{read_block, read_words, room_in, words_after, origins_after}
use Rattle.cases.specs.Case.{Case, case}
use Rattle.cases.specs.Samples.{pair_fig}

-- what a call gives
record Given : Type 0 where
  answer : Result Reading Refusal
  words : List ℕ
  origins : List ℕ

-- cells before a call
abbrev cells : ℕ → List ℕ
cells n = replicate n 7

-- a block read into so many cells for words, and so many for origins
abbrev given : List ℕ → ℕ → ℕ → Given
given s words origins =
    let cs = read_words s (room_in (cells words) (cells origins)) in
    record { answer = read_block s (room_in (cells words) (cells origins)); words = words_after cs (cells words); origins = origins_after cs (cells origins) }

-- no FIGs
abbrev idle : List ℕ
idle = 0xFF ∷ replicate 29 0x00 ++ 0xA8 ∷ 0xA8 ∷ []

-- the FIG of the worked pair
abbrev pair : List ℕ
pair = pair_fig ++ 0xFF ∷ replicate 17 0x00 ++ 0x2C ∷ 0xA6 ∷ []

-- twice, with a FIG of type 0 between, in 30 bytes without a marker
abbrev around : List ℕ
around = pair_fig ++ 0x05 ∷ 0x00 ∷ 0x00 ∷ 0x00 ∷ 0x00 ∷ 0x01 ∷ pair_fig ++ 0x65 ∷ 0x91 ∷ []

-- the pair, a FIG 5/2, and a FIG 5/1 of TCId 1 with the system word 0x0466
abbrev mixed : List ℕ
mixed = pair_fig ++ 0xA2 ∷ 0x0A ∷ 0x00 ∷ 0xA3 ∷ 0x89 ∷ 0x04 ∷ 0x66 ∷ 0xFF ∷ replicate 10 0x00 ++ 0x9B ∷ 0xC4 ∷ []

-- the second FIG has D2 = 1
abbrev second : List ℕ
second = 0xA3 ∷ 0x89 ∷ 0x04 ∷ 0x66 ∷ 0xA3 ∷ 0x49 ∷ 0x04 ∷ 0x66 ∷ 0xFF ∷ replicate 21 0x00 ++ 0x12 ∷ 0x1D ∷ []

-- a FIG of type 0 that runs past the data field, with a check word
abbrev past : List ℕ → List ℕ
past check = pair_fig ++ 0x1F ∷ 0xFF ∷ replicate 16 0x00 ++ check

-- the pair's FIG twice, and the marker
abbrev twice : List ℕ
twice = pair_fig ++ pair_fig ++ 0xFF ∷ replicate 5 0x00 ++ 0xC0 ∷ 0xA9 ∷ []

-- FIGs that are skipped: 0xFF in the body of one of type 0, type 7 with count 1, type 5 with count 0, type 0 with count 0; then a FIG 5/1, and
-- after the marker one with D2 = 1
abbrev skipped : List ℕ
skipped = 0x01 ∷ 0xFF ∷ 0xE1 ∷ 0x00 ∷ 0xA0 ∷ 0x00 ∷ 0xA3 ∷ 0x89 ∷ 0x04 ∷ 0x66 ∷ 0xFF ∷ 0xA3 ∷ 0x49 ∷ 0x04 ∷ 0x66 ∷ replicate 15 0x00 ++ 0x61 ∷ 0x63 ∷ []

-- the second FIG 5/1 has count 1, and so no data
abbrev empty : List ℕ
empty = 0xA3 ∷ 0x89 ∷ 0x04 ∷ 0x66 ∷ 0xA1 ∷ 0x09 ∷ 0xFF ∷ replicate 23 0x00 ++ 0x2F ∷ 0x11 ∷ []

unfoldable pub fib_cases : List Case
fib_cases =
    case 1 (given idle 2 2) (record { answer = Ok (Whole 0); words = cells 2; origins = cells 2 })
    ∷ case 2 (given pair 3 3) (record { answer = Ok (Whole 2); words = first401 ∷ later401 ∷ 7 ∷ []; origins = 1 ∷ 1 ∷ 7 ∷ [] })
    ∷ case 3 (given around 4 4) (record { answer = Ok (Whole 4); words = first401 ∷ later401 ∷ first401 ∷ later401 ∷ []; origins = 1 ∷ 1 ∷ 1 ∷ 1 ∷ [] })
    ∷ case 4 (given mixed 4 4) (record { answer = Ok (Whole 3); words = first401 ∷ later401 ∷ 0x0466 ∷ 7 ∷ []; origins = 1 ∷ 1 ∷ 9 ∷ 7 ∷ [] })
    ∷ case 5 (given second 2 2) (record { answer = Ok (Stopped (record { count = 1; at = 4 }) Reserved); words = 0x0466 ∷ 7 ∷ []; origins = 9 ∷ 7 ∷ [] })
    ∷ case 6 (given (past (0x9A ∷ 0x48 ∷ [])) 2 2) (record { answer = Err WrongLength; words = cells 2; origins = cells 2 })
    ∷ case 6 (given (past (0x9A ∷ 0x49 ∷ [])) 2 2) (record { answer = Err WrongCheckWord; words = cells 2; origins = cells 2 })
    ∷ case 7 (given twice 3 3) (record { answer = Ok (Stopped (record { count = 2; at = 12 }) SmallBuffer); words = first401 ∷ later401 ∷ 7 ∷ []; origins = 1 ∷ 1 ∷ 7 ∷ [] })
    ∷ case 7 (given twice 4 3) (record { answer = Ok (Stopped (record { count = 2; at = 12 }) SmallBuffer); words = first401 ∷ later401 ∷ 7 ∷ 7 ∷ []; origins = 1 ∷ 1 ∷ 7 ∷ [] })
    ∷ case 7 (given twice 4 4) (record { answer = Ok (Whole 4); words = first401 ∷ later401 ∷ first401 ∷ later401 ∷ []; origins = 1 ∷ 1 ∷ 1 ∷ 1 ∷ [] })
    ∷ case 8 (given skipped 2 2) (record { answer = Ok (Whole 1); words = 0x0466 ∷ 7 ∷ []; origins = 9 ∷ 7 ∷ [] })
    ∷ case 9 (given empty 2 2) (record { answer = Ok (Stopped (record { count = 1; at = 4 }) WrongLength); words = 0x0466 ∷ 7 ∷ []; origins = 9 ∷ 7 ∷ [] })
    ∷ case 10 (given (take 31 pair) 3 3) (record { answer = Err WrongLength; words = cells 3; origins = cells 3 })
    ∷ []
