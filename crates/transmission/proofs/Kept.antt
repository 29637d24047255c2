-- A step from a state that calls reach leads to one that they reach.
use Prim.Native.Nat.{ℕ, suc, ◌+◌, ◌<◌, ◌^◌}
use native.Mathlib.Omega.{arith}
use mathlib.Core.Path.{◌≡◌, refl, ap, ap₂}
use mathlib.Core.Bool.{Bool, true, false, cond, ◌&&◌}
use mathlib.Core.List.{List, [], ◌∷◌, ◌++◌}
use lib.Dec.{leb, ltb, eqb}
use lib.ListN.{length, length-append}
use borrow.Author.Tests.{eqb-true, eqb-false, le-leb, leb-true}
use Rattle.bits.specs.Fields.{fits}
use Rattle.std.specs.Prelude.{Result, Ok, Err}
use Rattle.bits.proofs.Choice.{and_left, and_right}
use Rattle.word.specs.declared.Head.{Head}
use Rattle.word.specs.declared.Word.{Word}
use Rattle.word.specs.declared.Word.TheVariants.{Single, First, Later, Tuning, Administration, Index7, Beyond}
use Rattle.word.specs.Format.{head_part}
use Rattle.word.specs.Kind.{kind_of}
use Rattle.word.specs.Compose.{head_values, is_index}
use Rattle.word.proofs.Numbers.{head-fits}
use Rattle.transmission.specs.Reading.{Rules}
use Rattle.transmission.specs.State.{State, empty, started}
use Rattle.transmission.specs.Step.{strayed, in_turn, completed, taken, later, step_by, step}
use Rattle.transmission.specs.Calls.{after}
use Rattle.transmission.specs.Reachable.{count_fits}
use Rattle.transmission.proofs.Reachable.{contents_fit, reachable}
use Rattle.transmission.proofs.Words.{first_index, first_fits, later_index, later_range}

-- what holds of an open message that calls reach
pub record Fit (ci : ℕ) (head : Head) (gsi : ℕ) (contents : List ℕ) : Type 0 where
  pub index : is_index ci ≡ true
  pub ranges : fits head_part (head_values head) ≡ true
  pub each : contents_fit contents ≡ true
  pub count : count_fits (length contents) gsi ≡ true

module _ {ci : ℕ} {head : Head} {gsi : ℕ} {contents : List ℕ} where
  pub fit : reachable (started ci head gsi contents) ≡ true → Fit ci head gsi contents
  unfolding reachable
  fit e =
      let behind = and_right (is_index ci) (fits head_part (head_values head) && (contents_fit contents && count_fits (length contents) gsi)) e in
      let last = and_right (fits head_part (head_values head)) (contents_fit contents && count_fits (length contents) gsi) behind in
      record {
        index = and_left (is_index ci) _ e;
        ranges = and_left (fits head_part (head_values head)) _ behind;
        each = and_left (contents_fit contents) _ last;
        count = and_right (contents_fit contents) _ last;
      }

  unfit : Fit ci head gsi contents → reachable (started ci head gsi contents) ≡ true
  unfolding reachable
  unfit f = rw (f.index, f.ranges, f.each) f.count

contents_fit_lem : (contents : List ℕ) (c : ℕ) → contents_fit contents ≡ true → ltb c (2 ^ 28) ≡ true → contents_fit (contents ++ c ∷ []) ≡ true
unfolding contents_fit
contents_fit_lem [] c e f = rw f
contents_fit_lem (d ∷ contents) c e f = ap₂ ◌&&◌ (and_left (ltb d (2 ^ 28)) _ e) (contents_fit_lem contents c (and_right (ltb d (2 ^ 28)) _ e) f)

-- one later group more, in its turn and not the last
count-fit : (contents : List ℕ) (last second gsi c : ℕ) → in_turn last contents second gsi ≡ true → count_fits (length contents) last ≡ true → gsi < 4 → (gsi ≡ 0 → ⊥)
    → count_fits (length (contents ++ c ∷ [])) gsi ≡ true
unfolding in_turn count_fits
count-fit [] last second gsi c turn room small more = ap₂ ◌&&◌ (le-leb 1 gsi (omega arith)) (le-leb (1 + gsi) 4 (omega arith))
count-fit (d ∷ contents) last second gsi c turn room small more =
    let next = eqb-true last (suc gsi) (and_right (eqb second 0) (eqb last (suc gsi)) turn) in
    let few = leb-true (suc (length contents) + last) 4 (and_right (leb 1 last) _ room) in
    let long = length-append contents (c ∷ []) in
    ap₂ ◌&&◌ (le-leb 1 gsi (omega arith)) (le-leb (suc (length (contents ++ c ∷ [])) + gsi) 4 (omega arith))

completed_empties : {R E : Type 0} (o : Result R E) → (completed o).next ≡ empty
unfolding completed
completed_empties (Ok r) = refl
completed_empties (Err e) = refl

module _ {R E : Type 0} (rules : Rules R E) where
  later-kept : (s : State) (n ci second gsi c : ℕ) → kind_of n ≡ Later ci second gsi c → reachable s ≡ true → reachable (later rules s ci second gsi c).next ≡ true
  unfolding later taken reachable
  later-kept empty n ci second gsi c k r = refl
  later-kept (started index head last contents) n ci second gsi c k r = by_turn (eqb index ci && in_turn last contents second gsi) refl
    where
      by_gsi : in_turn last contents second gsi ≡ true → (b : Bool) → eqb gsi 0 ≡ b → reachable (taken rules ci head gsi (contents ++ c ∷ [])).next ≡ true
      by_gsi turn true e = rw e (ap reachable (completed_empties (rules.multi head (contents ++ c ∷ []))))
      by_gsi turn false e =
          let old = fit r in
          let range = later_range n k in
          rw e (unfit (record {
            index = later_index n k;
            ranges = old.ranges;
            each = contents_fit_lem contents c old.each range.1;
            count = count-fit contents last second gsi c turn old.count range.0 (eqb-false gsi 0 e);
          }))

      by_turn : (b : Bool) → eqb index ci && in_turn last contents second gsi ≡ b → reachable (cond b (taken rules ci head gsi (contents ++ c ∷ [])) (strayed rules)).next ≡ true
      by_turn false e = refl
      by_turn true e = by_gsi (and_right (eqb index ci) _ e) (eqb gsi 0) refl

  kept_by : (s : State) (n : ℕ) (w : Word) → kind_of n ≡ w → reachable s ≡ true → reachable (step_by rules s w).next ≡ true
  unfolding step_by reachable contents_fit count_fits
  kept_by s n (Single duration diversion head) k r = refl
  kept_by s n (First ci head) k r = unfit {gsi = 0} {contents = []} (record { index = first_index n k; ranges = head-fits 0 0 ci 1 head (first_fits n k); each = refl; count = refl })
  kept_by s n (Later ci second gsi c) k r = later-kept s n ci second gsi c k r
  kept_by s n (Tuning m) k r = r
  kept_by s n (Administration m) k r = r
  kept_by s n (Index7 m) k r = r
  kept_by s n (Beyond m) k r = r

  pub reachable_kept : (s : State) (n : ℕ) → reachable s ≡ true → reachable (step rules s n).next ≡ true
  unfolding step
  reachable_kept s n r = kept_by s n (kind_of n) refl r

  pub after_kept : (words : List ℕ) (s : State) → reachable s ≡ true → reachable (after (step rules) s words) ≡ true
  unfolding after
  after_kept [] s r = r
  after_kept (n ∷ words) s r = after_kept words (step rules s n).next (reachable_kept s n r)
