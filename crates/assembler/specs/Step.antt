-- One call of the code (document 01, "The assembler"), however the content of a multi-group message is read.
use Rattle.std.specs.Prelude.{ℕ, cond, Err}
use Rattle.refusal.specs.declared.Refusal.TheVariants.{Unfit}
use Rattle.report.specs.declared.Unreadable.TheVariants.{Refused}
use Rattle.transmission.specs.Step as abstract
use Rattle.assembler.specs.declared.Assembler.{Assembler}
use Rattle.assembler.specs.declared.Step.{Step}
use Rattle.assembler.specs.Reading.{Reads, rules}
use Rattle.assembler.specs.State.{state_of}
use Rattle.assembler.specs.Fits.{fits}
use Rattle.assembler.specs.Answers.{given, leaving}

-- a state that no calls reach is refused and kept; from any other the step is that of the definitions
unfoldable pub step_of : Reads → Assembler → ℕ → Step
step_of read a n = cond (fits a) (given (abstract.step (rules read) (state_of a) n)) (leaving a (Err (Refused Unfit)))
