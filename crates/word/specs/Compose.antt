-- The word of a kind and its fields, or refusal 9 where no word has them.
use Rattle.std.specs.Prelude.{ℕ, ◌/◌, ◌^◌, Bool, cond, ◌&&◌, List, [], ◌∷◌, leb, eqb, Result, Ok, Err}
use Rattle.bits.specs.Bits.{val}
use Rattle.bits.specs.Fields.{pack, fits}
use Rattle.word.specs.declared.Head.{Head}
use Rattle.word.specs.declared.Word.{Word}
use Rattle.word.specs.declared.Word.TheVariants.{Single, First, Later, Tuning, Administration, Index7, Beyond}
use Rattle.refusal.specs.declared.Refusal.{Refusal}
use Rattle.refusal.specs.declared.Refusal.TheVariants.{Unfit}
use Rattle.word.specs.Format.{head_format, later_format}

-- a head's fields, in the order of the word
abbrev pub head_values : Head → List ℕ
head_values h = h.direction ∷ h.extent ∷ h.event ∷ h.location ∷ []

-- T = 0, F = 1
abbrev pub single_values : ℕ → ℕ → Head → List ℕ
single_values duration diversion h = 0 ∷ 1 ∷ duration ∷ diversion ∷ head_values h

-- T = 0, F = 0, Y15 = 1
abbrev pub first_values : ℕ → Head → List ℕ
first_values ci h = 0 ∷ 0 ∷ ci ∷ 1 ∷ head_values h

-- T = 0, F = 0, Y15 = 0
abbrev pub later_values : ℕ → ℕ → ℕ → ℕ → List ℕ
later_values ci second gsi content = 0 ∷ 0 ∷ ci ∷ 0 ∷ second ∷ gsi ∷ content ∷ []

-- the continuity index of a multi-group message: 1 to 6
unfoldable pub is_index : ℕ → Bool
is_index ci = leb 1 ci && leb ci 6

-- the number n where the test holds, else refusal 9
abbrev pub number_if : Bool → ℕ → Result ℕ Refusal
number_if t n = cond t (Ok n) (Err Unfit)

-- a word handed on whole must be of its own kind
unfoldable pub composed : Word → Result ℕ Refusal
composed (Single duration diversion h) = number_if (fits head_format (single_values duration diversion h)) (val (pack head_format (single_values duration diversion h)))
composed (First ci h) = number_if (is_index ci && fits head_format (first_values ci h)) (val (pack head_format (first_values ci h)))
composed (Later ci second gsi content) = number_if (is_index ci && fits later_format (later_values ci second gsi content)) (val (pack later_format (later_values ci second gsi content)))
composed (Tuning n) = number_if (eqb (n / 2 ^ 36) 1) n
composed (Administration n) = number_if (eqb (n / 2 ^ 32) 0) n
composed (Index7 n) = number_if (eqb (n / 2 ^ 32) 7) n
composed (Beyond n) = Err Unfit
