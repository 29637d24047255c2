-- A list of calls, the state handed on from each to the next, and the reports among their answers.
use Rattle.std.specs.Prelude.{ℕ, List, [], ◌∷◌, Result, Ok, Err}
use Rattle.transmission.specs.State.{State}
use Rattle.transmission.specs.Step.{Step, Answer, nothing, report, tuning, administration}

module _ {R E : Type 0} (step : State → ℕ → Step R E) where
  -- the answers, in order
  unfoldable pub answers : State → List ℕ → List (Result (Answer R) E)
  answers s [] = []
  answers s (n ∷ words) = (step s n).answer ∷ answers (step s n).next words

  -- the state after the last call
  unfoldable pub after : State → List ℕ → State
  after s [] = s
  after s (n ∷ words) = after (step s n).next words

-- a report, if the answer is one, before others
unfoldable pub report_then : {R E : Type 0} → Result (Answer R) E → List R → List R
report_then (Ok nothing) rs = rs
report_then (Ok (report r)) rs = r ∷ rs
report_then (Ok (tuning n)) rs = rs
report_then (Ok (administration n)) rs = rs
report_then (Err e) rs = rs

unfoldable pub reports_among : {R E : Type 0} → List (Result (Answer R) E) → List R
reports_among [] = []
reports_among (a ∷ rest) = report_then a (reports_among rest)

-- the reports that an assembler gives on a list of words
abbrev pub reports_to : {R E : Type 0} → (State → ℕ → Step R E) → State → List ℕ → List R
reports_to step s words = reports_among (answers step s words)
