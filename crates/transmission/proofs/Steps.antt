-- Laws of a step: by the kind of the word, and of a later group by its turn.
use Prim.Native.Nat.{ℕ, suc}
use mathlib.Core.Path.{◌≡◌, refl, ap, ◌∙◌}
use mathlib.Core.Bool.{Bool, false, cond, ◌&&◌}
use mathlib.Core.List.{List, [], ◌∷◌, ◌++◌}
use lib.Dec.{eqb}
use borrow.Author.Tests.{eq-eqb, ne_eqb}
use Rattle.std.specs.Prelude.{Ok}
use Rattle.word.specs.declared.Head.{Head}
use Rattle.word.specs.declared.Word.{Word}
use Rattle.word.specs.declared.Word.TheVariants.{Later}
use Rattle.word.specs.Kind.{kind_of}
use Rattle.transmission.specs.Reading.{Rules}
use Rattle.transmission.specs.State.{State, empty, started}
use Rattle.transmission.specs.Step.{Step, nothing, leaving, strayed, in_turn, taken, later, step_by, step}

-- s holds no open message of index ci
abbrev pub Foreign : ℕ → State → Type 0
Foreign ci empty = Unit {0}
Foreign ci (started index head last contents) = index ≡ ci → ⊥

module _ {R E : Type 0} (rules : Rules R E) where
  -- a later group of another index
  pub foreign_strays : (ci : ℕ) (s : State) → Foreign ci s → (second gsi c : ℕ) → later rules s ci second gsi c ≡ strayed rules
  unfolding later
  foreign_strays ci empty h second gsi c = refl
  foreign_strays ci (started index head last contents) h second gsi c =
      ap (λ (b : Bool). cond (b && in_turn last contents second gsi) (taken rules ci head gsi (contents ++ c ∷ [])) (strayed rules)) (ne_eqb index ci h)

  -- one without the mark as the first of its message
  pub unmarked_strays : (ci : ℕ) (head : Head) (gsi c : ℕ) → later rules (started ci head 0 []) ci 0 gsi c ≡ strayed rules
  unfolding later in_turn
  unmarked_strays ci head gsi c = rw (eq-eqb ci ci refl)

  -- one after a gap
  pub gap_strays : (ci : ℕ) (head : Head) (last d : ℕ) (contents : List ℕ) (gsi c : ℕ) → (last ≡ suc gsi → ⊥) → later rules (started ci head last (d ∷ contents)) ci 0 gsi c ≡ strayed rules
  unfolding later in_turn
  gap_strays ci head last d contents gsi c h =
      ap (λ (b : Bool). cond (eqb ci ci && b) (taken rules ci head gsi ((d ∷ contents) ++ c ∷ [])) (strayed rules)) (ne_eqb last (suc gsi) h) ∙ rw (eq-eqb ci ci refl)

  -- one in its turn
  pub in_turn_lem : (ci : ℕ) (head : Head) (gsi d : ℕ) (contents : List ℕ) (c : ℕ) → later rules (started ci head (suc gsi) (d ∷ contents)) ci 0 gsi c ≡ taken rules ci head gsi (d ∷ (contents ++ c ∷ []))
  unfolding later in_turn
  in_turn_lem ci head gsi d contents c = rw (eq-eqb ci ci refl, eq-eqb (suc gsi) (suc gsi) refl)

  pub marked_in_turn : (ci : ℕ) (head : Head) (gsi c : ℕ) → later rules (started ci head 0 []) ci 1 gsi c ≡ taken rules ci head gsi (c ∷ [])
  unfolding later in_turn
  marked_in_turn ci head gsi c = rw (eq-eqb ci ci refl)

  -- a message that goes on
  pub taken_open : (ci : ℕ) (head : Head) (gsi : ℕ) (contents : List ℕ) → eqb gsi 0 ≡ false → taken rules ci head gsi contents ≡ leaving (started ci head gsi contents) (Ok nothing)
  unfolding taken
  taken_open ci head gsi contents e = rw e

-- a word, by its kind
module _ {R E : Type 0} (rules : Rules R E) (s : State) (n : ℕ) where
  pub step-kind : (w : Word) → kind_of n ≡ w → step rules s n ≡ step_by rules s w
  unfolding step
  step-kind w e = ap (step_by rules s) e

  pub step-later : {ci second gsi c : ℕ} {t : Step R E} → kind_of n ≡ Later ci second gsi c → later rules s ci second gsi c ≡ t → step rules s n ≡ t
  unfolding step_by
  step-later {ci} {second} {gsi} {c} k e = step-kind (Later ci second gsi c) k ∙ e
