-- A list of calls, the state handed on from each to the next, and the reports among what they give back.
use Rattle.std.specs.Prelude.{ℕ, ◌<◌, ◌≡◌, List, [], ◌∷◌, Result, Ok, Err}
use Rattle.word.specs.Format.{limit}
use Rattle.report.specs.declared.Report.{Report}
use Rattle.report.specs.declared.Unreadable.{Unreadable}
use Rattle.transmission.specs.Demand3.{All}
use Rattle.assembler.specs.declared.Assembler.{Assembler}
use Rattle.assembler.specs.declared.Assembler.TheVariants.{Empty}
use Rattle.assembler.specs.declared.Answer.{Answer}
use Rattle.assembler.specs.declared.Answer.TheVariants as answer
use Rattle.assembler.specs.declared.Step.{Step}
use Rattle.assembler.specs.Reading.{Reads}
use Rattle.assembler.specs.Step.{step_of}

module _ (read : Reads) where
  -- what the calls give back, in order
  unfoldable pub calls : Assembler → List ℕ → List Step
  calls a [] = []
  calls a (n ∷ words) = step_of read a n ∷ calls (step_of read a n).next words

  -- the state after the last call
  unfoldable pub after : Assembler → List ℕ → Assembler
  after a [] = a
  after a (n ∷ words) = after (step_of read a n).next words

  -- some calls, each with a 37-bit word, lead from the empty state to this one
  abbrev pub Reached : Assembler → Type 0
  Reached a = (words : List ℕ) × All (λ n. n < limit) words × (after Empty words ≡ a)

-- a report, if the answer is one, before others
unfoldable pub report_then : Result Answer Unreadable → List Report → List Report
report_then (Ok answer.Nothing) rs = rs
report_then (Ok (answer.Report r)) rs = r ∷ rs
report_then (Ok (answer.Tuning n)) rs = rs
report_then (Ok (answer.Administration n)) rs = rs
report_then (Err e) rs = rs

unfoldable pub reports_of : List Step → List Report
reports_of [] = []
reports_of (s ∷ steps) = report_then s.answer (reports_of steps)
