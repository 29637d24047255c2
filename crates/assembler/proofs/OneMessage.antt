-- The calls of a fresh assembler on the words of one well-formed message.
use Prim.Native.Nat.{ℕ, suc, zero, ◌-◌}
use native.Mathlib.Omega.{arith}
use mathlib.Core.Path.{◌≡◌, refl, sym, ap, ◌∙◌}
use mathlib.Core.Bool.{true}
use mathlib.Core.List.{List, [], ◌∷◌, ◌++◌, map}
use lib.ListN.{length, replicate}
use Rattle.std.specs.Prelude.{Result, Ok}
use Rattle.bits.specs.Outcome.{mapped}
use Rattle.report.specs.declared.Report.{Report}
use Rattle.report.specs.declared.Unreadable.{Unreadable}
use Rattle.transmission.specs.State.{State, empty}
use Rattle.transmission.specs.Step as abstract
use Rattle.transmission.specs.Calls as list
use Rattle.transmission.specs.Message.{Group, WellFormed}
use Rattle.transmission.proofs.Reached as reached
use Rattle.transmission.proofs.Reachable.{reachable}
use Rattle.transmission.proofs.WholeMessage.{words_in, at_last, whole-message}
use Rattle.assembler.specs.declared.Assembler.{Assembler}
use Rattle.assembler.specs.declared.Assembler.TheVariants.{Empty, Started}
use Rattle.assembler.specs.declared.Answer.{Answer}
use Rattle.assembler.specs.declared.Answer.TheVariants as answer
use Rattle.assembler.specs.declared.Step.{Step}
use Rattle.assembler.specs.Reading.{Reads, rules}
use Rattle.assembler.specs.State.{state_of}
use Rattle.assembler.specs.Fits.{fits}
use Rattle.assembler.specs.Answers.{answer_of}
use Rattle.assembler.specs.Step.{step_of}
use Rattle.assembler.specs.Calls.{calls, after}
use Rattle.assembler.specs.OneMessage.{GivesBack}
use Rattle.assembler.proofs.CallSteps.{abstract_call, as_defined, next_fits, next_state, same-reports, same_after}

-- a state that the definitions call empty
none_open : (a : Assembler) → state_of a ≡ empty → a ≡ Empty
unfolding state_of
none_open Empty e = refl
none_open (Started p) e = let z : ◌≡◌ {A = ℕ} 0 1 = cc in absurd (omega arith)

-- the code's answers, and the answers and the report at the last word
abbrev Answered : Type 0
Answered = Result Answer Unreadable

abbrev shown : Result (abstract.Answer Report) Unreadable → Answered
shown = mapped answer_of

answers_at_last : (n : ℕ) (r : Report) → map shown (at_last n r) ≡ replicate n (Ok answer.Nothing) ++ (Ok (answer.Report r) ∷ [])
unfolding answer_of
answers_at_last zero r = refl
answers_at_last (suc n) r = ap (λ (l : List Answered). Ok answer.Nothing ∷ l) (answers_at_last n r)

report_at_last : (n : ℕ) (r : Report) → list.reports_among (at_last {E = Unreadable} n r) ≡ r ∷ []
unfolding list.reports_among list.report_then
report_at_last zero r = refl
report_at_last (suc n) r = report_at_last n r

length-words : (gs : List Group) → length (words_in gs) ≡ length gs
length-words [] = refl
length-words (g ∷ gs) = ap suc (length-words gs)

module _ (read : Reads) where
  same-answers : (words : List ℕ) (a : Assembler) → fits a ≡ true → map (λ s. s.answer) (calls read a words) ≡ map shown (list.answers (abstract_call read) (state_of a) words)
  unfolding calls list.answers
  same-answers [] a e = refl
  same-answers (n ∷ words) a e =
      ap (λ (s : Step). s.answer ∷ map (λ t. t.answer) (calls read (step_of read a n).next words)) (as_defined read a n e)
      ∙ ap (λ (l : List Answered). shown (abstract_call read (state_of a) n).answer ∷ l)
      (same-answers words (step_of read a n).next (next_fits read a n e)
      ∙ ap (λ (s : State). map shown (list.answers (abstract_call read) s words)) (next_state read a n e))

  pub one_message : {gs : List Group} {r : Report} → WellFormed (rules read) gs r → GivesBack read (words_in gs) r
  unfolding fits state_of reachable
  one_message {gs} {r} formed =
      let ws = words_in gs in
      let n = length gs - 1 in
      let run = whole-message (rules read) empty formed in
      let told : list.answers (abstract_call read) empty ws ≡ at_last n r =
      reached.same-answers (rules read) ws empty refl ∙ ap (λ (x : List (Result (abstract.Answer Report) Unreadable) × State). x.0) run in
      record {
        answers =
            same-answers ws Empty refl
            ∙ ap (map shown) told
            ∙ answers_at_last n r
            ∙ ap (λ (k : ℕ). replicate (k - 1) (Ok answer.Nothing) ++ (Ok (answer.Report r) ∷ [])) (sym (length-words gs));
        reports = same-reports read ws Empty refl ∙ ap list.reports_among told ∙ report_at_last n r;
        ended =
            none_open (after read Empty ws)
            (same_after read ws Empty refl ∙ reached.same_after (rules read) ws empty refl ∙ ap (λ (x : List (Result (abstract.Answer Report) Unreadable) × State). x.1) run);
      }
