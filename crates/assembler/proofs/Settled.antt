-- A call whose refusals are told otherwise, by their numbers say, is the call of the rules that tell them so: nothing but the refusal hangs
-- on what a refusal carries.
use mathlib.Core.Path.{◌≡◌, refl}
use mathlib.Core.Bool.{Bool, true, false, cond, ◌&&◌}
use mathlib.Core.List.{List, [], ◌∷◌, ◌++◌}
use Prim.Native.Nat.{ℕ}
use lib.Dec.{eqb}
use Rattle.std.specs.Prelude.{Result, Ok, Err}
use Rattle.bits.specs.Outcome.{refused_as}
use Rattle.refusal.specs.declared.Refusal.TheVariants.{Unfit}
use Rattle.word.specs.declared.Head.{Head}
use Rattle.word.specs.declared.Word.{Word}
use Rattle.word.specs.declared.Word.TheVariants.{Single, First, Later, Tuning, Administration, Index7, Beyond}
use Rattle.word.specs.Kind.{kind_of}
use Rattle.report.specs.declared.Report.{Report}
use Rattle.report.specs.declared.Unreadable.{Unreadable}
use Rattle.report.specs.Answers.{number_of}
use Rattle.transmission.specs.Reading.{Rules}
use Rattle.transmission.specs.State.{State, empty, started}
use Rattle.transmission.specs.Step.{nothing, Step, leaving, strayed, in_turn, completed, taken, later, step_by, step}
use Rattle.transmission.proofs.Reachable.{reachable, call}
use Rattle.assembler.specs.Reading.{Reads, rules}

module _ {R E F : Type 0} (f : E → F) where
  -- the rules with refusals told so
  abbrev pub told : Rules R E → Rules R F
  told rs = record { single = rs.single; multi = λ head contents. refused_as f (rs.multi head contents); plain = λ refusal. f (rs.plain refusal) }

  -- a step with its refusal told so
  abbrev pub told_step : Step R E → Step R F
  told_step s = record { next = s.next; answer = refused_as f s.answer }

  module _ (rs : Rules R E) where
    whole_settles : (m : Result R E) → told_step (completed m) ≡ completed (refused_as f m)
    unfolding completed
    whole_settles (Ok r) = refl
    whole_settles (Err e) = refl

    taken_settles : (ci : ℕ) (head : Head) (gsi : ℕ) (contents : List ℕ) → told_step (taken rs ci head gsi contents) ≡ taken (told rs) ci head gsi contents
    unfolding taken
    taken_settles ci head gsi contents = by_gsi (eqb gsi 0)
      where
        by_gsi : (b : Bool) → told_step (cond b (completed (rs.multi head contents)) (leaving (started ci head gsi contents) (Ok nothing)))
            ≡ cond b (completed (refused_as f (rs.multi head contents))) (leaving (started ci head gsi contents) (Ok nothing))
        by_gsi true = whole_settles (rs.multi head contents)
        by_gsi false = refl

    later_settles : (s : State) (ci second gsi content : ℕ) → told_step (later rs s ci second gsi content) ≡ later (told rs) s ci second gsi content
    unfolding later
    later_settles empty ci second gsi content = refl
    later_settles (started index head last contents) ci second gsi content = by_turn (eqb index ci && in_turn last contents second gsi)
      where
        by_turn : (b : Bool) → told_step (cond b (taken rs ci head gsi (contents ++ content ∷ [])) (strayed rs)) ≡ cond b (taken (told rs) ci head gsi (contents ++ content ∷ [])) (strayed (told rs))
        by_turn true = taken_settles ci head gsi (contents ++ content ∷ [])
        by_turn false = refl

    word_settles : (s : State) (w : Word) → told_step (step_by rs s w) ≡ step_by (told rs) s w
    unfolding step_by
    word_settles s (Single duration diversion head) = refl
    word_settles s (First ci head) = refl
    word_settles s (Later ci second gsi content) = later_settles s ci second gsi content
    word_settles s (Tuning n) = refl
    word_settles s (Administration n) = refl
    word_settles s (Index7 n) = refl
    word_settles s (Beyond n) = refl

    pub call_told : (s : State) (n : ℕ) → told_step (call rs s n) ≡ call (told rs) s n
    unfolding call step
    call_told s n = by_state (reachable s)
      where
        by_state : (b : Bool) → told_step (cond b (step_by rs s (kind_of n)) (leaving s (Err (rs.plain Unfit)))) ≡ cond b (step_by (told rs) s (kind_of n)) (leaving s (Err (f (rs.plain Unfit))))
        by_state true = word_settles s (kind_of n)
        by_state false = refl

-- a refusal by its number
pub call_settles : (read : Reads) (s : State) (n : ℕ) → told_step number_of (call (rules read) s n) ≡ call (told number_of (rules read)) s n
call_settles read = call_told number_of (rules read)
