-- What it is for user words to be whole messages (document 01, "DRM").
use Rattle.std.specs.Prelude.{ℕ, ◌≡◌, true, List, ◌∷◌, ◌++◌, IsOk}
use Rattle.word.specs.Kind.{kind_of}
use Rattle.transmission.specs.Demand3.{All}
use Rattle.assembler.specs.declared.Assembler.TheVariants.{Empty}
use Rattle.assembler.specs.Reading.{Reads}
use Rattle.assembler.specs.Calls.{calls, after}
use Rattle.messages.specs.Messages.{begins}

-- fed in order to a fresh assembler, the words are not refused, none drops an open message, and none is open at the end
pub record Whole (read : Reads) (ws : List ℕ) : Type 0 where
  pub taken : All (λ s. IsOk s.answer) (calls read Empty ws)
  pub kept : (before : List ℕ) (n : ℕ) (rest : List ℕ) → ws ≡ before ++ n ∷ rest → begins (kind_of n) ≡ true → after read Empty before ≡ Empty
  pub ended : after read Empty ws ≡ Empty
