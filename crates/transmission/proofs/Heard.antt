-- The reports that the abstract assembler gives on a list of words, and that words other than user groups change none of them.
use Prim.Native.Nat.{ℕ}
use mathlib.Core.Path.{◌≡◌, refl, sym, ap, ◌∙◌}
use mathlib.Core.Bool.{Bool, true, false, cond, true≢false}
use mathlib.Core.List.{List, [], ◌∷◌}
use Rattle.word.specs.declared.Word.{Word}
use Rattle.word.specs.declared.Word.TheVariants.{Single, First, Later, Tuning, Administration, Index7, Beyond}
use Rattle.word.specs.Kind.{kind_of}
use Rattle.word.specs.User.{is_user, is_user_kind}
use Rattle.word.proofs.UserGroups.{user_kind}
use Rattle.transmission.specs.Reading.{Rules}
use Rattle.transmission.specs.State.{State}
use Rattle.transmission.specs.Step.{Step, step, step_by}
use Rattle.transmission.specs.Calls.{answers, report_then, reports_among, reports_to}
use Rattle.transmission.specs.Demand3.{user_words}
use Rattle.transmission.proofs.Steps.{step-kind}

module _ {R E : Type 0} (rules : Rules R E) where
  abbrev pub heard : State → List ℕ → List R
  heard = reports_to (step rules)

  -- after a step
  abbrev pub heard_after : Step R E → List ℕ → List R
  heard_after t words = report_then t.answer (heard t.next words)

  pub heard-step : (s : State) (n : ℕ) (words : List ℕ) {t : Step R E} → step rules s n ≡ t → heard s (n ∷ words) ≡ heard_after t words
  unfolding answers reports_among
  heard-step s n words e = ap (λ (t : Step R E). heard_after t words) e

  -- a word that is no user group leaves the state and gives no report
  passed_by : (s : State) (w : Word) (words : List ℕ) → is_user_kind w ≡ false → heard_after (step_by rules s w) words ≡ heard s words
  unfolding step_by report_then is_user_kind
  passed_by s (Single duration diversion head) words e = absurd (true≢false e)
  passed_by s (First ci head) words e = absurd (true≢false e)
  passed_by s (Later ci second gsi content) words e = absurd (true≢false e)
  passed_by s (Tuning n) words e = refl
  passed_by s (Administration n) words e = refl
  passed_by s (Index7 n) words e = refl
  passed_by s (Beyond n) words e = refl

  pub only_user_words : (words : List ℕ) (s : State) → heard s words ≡ heard s (user_words words)
  unfolding user_words answers reports_among
  only_user_words [] s = refl
  only_user_words (n ∷ words) s = by_user (is_user n) refl (only_user_words words)
    where
      by_user : (b : Bool) → is_user n ≡ b → ((t : State) → heard t words ≡ heard t (user_words words)) → heard s (n ∷ words) ≡ heard s (cond (is_user n) (n ∷ user_words words) (user_words words))
      by_user true e rest = rw e (ap (report_then (step rules s n).answer) (rest (step rules s n).next))
      by_user false e rest =
          rw e (heard-step s n words (step-kind rules s n (kind_of n) refl) ∙ passed_by s (kind_of n) words (sym (user_kind n) ∙ e) ∙ rest s)
