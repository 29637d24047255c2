-- What it is for words to give back a report (demand 2): the calls of a fresh assembler.
use Rattle.std.specs.Prelude.{ℕ, ◌-◌, ◌≡◌, List, [], ◌∷◌, ◌++◌, map, length, replicate, Ok}
use Rattle.report.specs.declared.Report.{Report}
use Rattle.assembler.specs.declared.Assembler.TheVariants.{Empty}
use Rattle.assembler.specs.declared.Answer.TheVariants as answer
use Rattle.assembler.specs.Reading.{Reads}
use Rattle.assembler.specs.Calls.{calls, after, reports_of}

-- nothing yet at each word but the last, at the last this report, which is the only one; and no message is open then
pub record GivesBack (read : Reads) (ws : List ℕ) (r : Report) : Type 0 where
  pub answers : map (λ s. s.answer) (calls read Empty ws) ≡ replicate (length ws - 1) (Ok answer.Nothing) ++ (Ok (answer.Report r) ∷ [])
  pub reports : reports_of (calls read Empty ws) ≡ r ∷ []
  pub ended : after read Empty ws ≡ Empty
