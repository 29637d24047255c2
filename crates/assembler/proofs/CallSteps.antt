-- Calls of the code beside those of the definitions: the same states, the same answers.
use Prim.Native.Nat.{ℕ}
use mathlib.Core.Path.{◌≡◌, refl, sym, ap, ◌∙◌}
use mathlib.Core.Bool.{true}
use mathlib.Core.List.{List, [], ◌∷◌}
use Rattle.std.specs.Prelude.{Result, Ok, Err}
use Rattle.bits.specs.Outcome.{mapped}
use Rattle.word.specs.declared.Word.{Word}
use Rattle.report.specs.declared.Report.{Report}
use Rattle.report.specs.declared.Unreadable.{Unreadable}
use Rattle.transmission.specs.State.{State}
use Rattle.transmission.specs.Step as abstract
use Rattle.transmission.specs.Calls as list
use Rattle.transmission.proofs.Reachable.{reachable, call}
use Rattle.transmission.proofs.Kept.{reachable_kept}
use Rattle.assembler.specs.declared.Assembler.{Assembler}
use Rattle.assembler.specs.declared.Answer.{Answer}
use Rattle.assembler.specs.declared.Step.{Step}
use Rattle.assembler.specs.Reading.{Reads, rules}
use Rattle.assembler.specs.State.{state_of, assembler_of}
use Rattle.assembler.specs.Fits.{fits}
use Rattle.assembler.specs.Answers.{answer_of, given, leaving}
use Rattle.assembler.specs.Step.{step_of}
use Rattle.assembler.specs.Calls.{calls, after, report_then, reports_of}
use Rattle.assembler.proofs.States.{assembler_state, state_reachable, assembler_fits, state_assembler}

-- a state that passes the test is left as it is kept
pub kept : (a : Assembler) → fits a ≡ true → (x : Result Answer Unreadable) → leaving a x ≡ leaving (assembler_of (state_of a)) x
kept a e x = ap (λ (b : Assembler). leaving b x) (sym (assembler_state a e))

-- a report among the code's answers is one among the definitions'
same-report : (x : Result (abstract.Answer Report) Unreadable) (rs : List Report) → report_then (mapped answer_of x) rs ≡ list.report_then x rs
unfolding report_then answer_of list.report_then
same-report (Ok abstract.nothing) rs = refl
same-report (Ok (abstract.report r)) rs = refl
same-report (Ok (abstract.tuning n)) rs = refl
same-report (Ok (abstract.administration n)) rs = refl
same-report (Err x) rs = refl

module _ (read : Reads) where
  -- what the code gives back for a word of this kind
  abbrev pub taking : Assembler → Word → Step
  taking a w = given (abstract.step_by (rules read) (state_of a) w)

  -- the definitions' call
  abbrev pub abstract_call : State → ℕ → abstract.Step Report Unreadable
  abstract_call = call (rules read)

  -- a call from a state that calls reach
  pub as_defined : (a : Assembler) (n : ℕ) → fits a ≡ true → step_of read a n ≡ given (abstract_call (state_of a) n)
  unfolding step_of call
  as_defined a n e = rw (e, state_reachable a e)

  next_reachable : (a : Assembler) (n : ℕ) → fits a ≡ true → reachable (abstract_call (state_of a) n).next ≡ true
  unfolding call
  next_reachable a n e = rw (state_reachable a e) (reachable_kept (rules read) (state_of a) n (state_reachable a e))

  -- the next state passes the test, and is the definitions'
  pub next_fits : (a : Assembler) (n : ℕ) → fits a ≡ true → fits (step_of read a n).next ≡ true
  next_fits a n e = ap (λ (s : Step). fits s.next) (as_defined a n e) ∙ assembler_fits (abstract_call (state_of a) n).next (next_reachable a n e)

  pub next_state : (a : Assembler) (n : ℕ) → fits a ≡ true → state_of (step_of read a n).next ≡ (abstract_call (state_of a) n).next
  next_state a n e = ap (λ (s : Step). state_of s.next) (as_defined a n e) ∙ state_assembler (abstract_call (state_of a) n).next (next_reachable a n e)

  pub same-reports : (words : List ℕ) (a : Assembler) → fits a ≡ true → reports_of (calls read a words) ≡ list.reports_among (list.answers abstract_call (state_of a) words)
  unfolding calls reports_of list.answers list.reports_among
  same-reports [] a e = refl
  same-reports (n ∷ words) a e =
      let rest = reports_of (calls read (step_of read a n).next words) in
      let x = (abstract_call (state_of a) n).answer in
      ap (λ (s : Step). report_then s.answer rest) (as_defined a n e)
      ∙ same-report x rest
      ∙ ap (list.report_then x)
      (same-reports words (step_of read a n).next (next_fits a n e)
      ∙ ap (λ (t : State). list.reports_among (list.answers abstract_call t words)) (next_state a n e))

  pub after-fits : (words : List ℕ) (a : Assembler) → fits a ≡ true → fits (after read a words) ≡ true
  unfolding after
  after-fits [] a e = e
  after-fits (n ∷ words) a e = after-fits words (step_of read a n).next (next_fits a n e)

  pub same_after : (words : List ℕ) (a : Assembler) → fits a ≡ true → state_of (after read a words) ≡ list.after abstract_call (state_of a) words
  unfolding after list.after
  same_after [] a e = refl
  same_after (n ∷ words) a e =
      same_after words (step_of read a n).next (next_fits a n e)
      ∙ ap (λ (s : State). list.after abstract_call s words) (next_state a n e)
