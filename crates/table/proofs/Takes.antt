-- The ways out of taking a report and of expiry alone.
use Prim.Native.Nat.{ℕ, ◌%◌}
use mathlib.Core.Path.{◌≡◌, refl, sym, ap, ap₂, ◌∙◌}
use mathlib.Core.Bool.{Bool, true, false, cond, not, ◌&&◌}
use mathlib.Core.List.{List}
use lib.IntN.{ℤ}
use lib.ListN.{length}
use Rattle.std.specs.Prelude.{⊤, Result, Ok, Err, is_ok}
use Rattle.std.specs.Result.{result_and}
use Rattle.refusal.specs.Checks.{must}
use Rattle.refusal.specs.declared.Refusal.{Refusal}
use Rattle.refusal.specs.declared.Refusal.TheVariants.{Malformed, WrongMinute, NoRoom}
use Rattle.bits.proofs.Choice.{chosen, passed_over}
use Rattle.record.specs.Layout.{record_size}
use Rattle.record.specs.Matching.{matching}
use Rattle.lent.specs.Table.{table_fits}
use Rattle.lent.specs.declared.catalogue.Kind.{Kind}
use Rattle.lent.specs.declared.catalogue.Kind.TheVariants.{Ordinary, Cancelling, Null}
use Rattle.classes.specs.Keys.{key_of}
use Rattle.checks.specs.declared.Arrival.{Arrival}
use Rattle.checks.specs.Events.{is_ordinary, kind_for}
use Rattle.checks.specs.Checks.{minute_unfit, check_answer}
use Rattle.table.specs.declared.WhenFull.{WhenFull}
use Rattle.table.specs.declared.Answer.{Answer}
use Rattle.table.specs.declared.Answer.TheVariants.{Freed}
use Rattle.table.specs.Steps.{after_expiry, expired_in, after_matching, matched_in, no_room, after_storing}
use Rattle.table.specs.Expire.{expire_answer, expire_table}
use Rattle.table.specs.Take.{matches, matches_of, record_for, keeps, storing_answer, taken_answer, taken_table, take_answer, take_table}
use Rattle.table.proofs.Counts.{clash}
use Rattle.table.proofs.Freeing.{nothing_matched, nothing_changed}

-- what an answer after checks and one more test leaves, and what is known where it is a value
left : {A : Type 0} (b : Bool) (e : Refusal) (x : Answer) (after before : A) → cond (is_ok (must b e (Ok x))) after before ≡ cond b after before
left true e x after before = refl
left false e x after before = refl

parts : (r : Result ⊤ Refusal) (w : Bool) (x : Answer) → is_ok (result_and r (must (not w) NoRoom (Ok x))) ≡ true → (r ≡ Ok tt) × (w ≡ false) × (result_and r (must (not w) NoRoom (Ok x)) ≡ Ok x)
parts (Ok u) false x e = (refl, refl, refl)
parts (Ok u) true x e = clash e refl
parts (Err d) w x e = clash e refl

module _ (t c l : List ℕ) (last : ℕ) (a : Arrival) (lto : ℤ) (full : WhenFull) where
  abbrev m : ℕ
  m = a.minute.0

  abbrev kind : Kind
  kind = kind_for c a.report

  -- nothing is refused
  abbrev pub Accepted : Type 0
  Accepted = is_ok (take_answer t c l last a lto full) ≡ true

  pub refused-take : (e : Refusal) → take_answer t c l last a lto full ≡ Err e → take_table t c l last a lto full ≡ t
  unfolding take_table
  refused-take e r = passed_over _ _ _ (ap is_ok r)

  pub accepted_take : Accepted → take_table t c l last a lto full ≡ taken_table kind m (matches_of c a) (record_for c l a lto) t
  unfolding take_table
  accepted_take e = chosen _ _ _ e

  -- past the checks, with room where it is needed, and answered by the kind
  pub passed : Accepted → (check_answer t c l last a lto ≡ Ok tt) × (is_ordinary kind && (no_room m (matches_of c a) t && keeps full) ≡ false) × (take_answer t c l last a lto full ≡ Ok (taken_answer kind m (matches_of c a) t))
  unfolding take_answer
  passed e = parts (check_answer t c l last a lto) (is_ordinary kind && (no_room m (matches_of c a) t && keeps full)) (taken_answer kind m (matches_of c a) t) e

  -- past the checks, by the kind of the event
  module _ (fine : check_answer t c l last a lto ≡ Ok tt) (whole : length t % record_size ≡ 0) where
    abbrev match : List ℕ → Bool
    match = matching (key_of c a.service a.report)

    -- the answer for a kind
    abbrev answered : Result ⊤ Refusal → Kind → Result Answer Refusal
    answered r k = result_and r (must (not (is_ordinary k && (no_room m (matches k match) t && keeps full))) NoRoom (Ok (taken_answer k m (matches k match) t)))

    answer_is : (k : Kind) → kind ≡ k → take_answer t c l last a lto full ≡ answered (Ok tt) k
    unfolding take_answer
    answer_is k e = ap₂ answered fine e

    table_is : (k : Kind) → kind ≡ k → take_table t c l last a lto full ≡ cond (is_ok (answered (Ok tt) k)) (taken_table k m (matches k match) (record_for c l a lto) t) t
    unfolding take_table
    table_is k e = ap₂ (λ (r : Result Answer Refusal) (j : Kind). cond (is_ok r) (taken_table j m (matches j match) (record_for c l a lto) t) t) (answer_is k e) e

    abbrev Way : Result Answer Refusal → List ℕ → Type 0
    Way s u = (s ≡ take_answer t c l last a lto full) × (u ≡ take_table t c l last a lto full)

    pub null_way : kind ≡ Null → Way (Ok (Freed (expired_in m t) 0)) (after_expiry m t)
    unfolding matches taken_answer taken_table
    null_way e = (
      ap (λ (n : ℕ). Ok (Freed (expired_in m t) n)) (sym (nothing_matched m t whole)) ∙ sym (answer_is Null e),
      sym (nothing_changed m t whole) ∙ sym (table_is Null e),
    )

    pub cancelling_way : kind ≡ Cancelling → Way (Ok (Freed (expired_in m t) (matched_in m match t))) (after_matching m match t)
    unfolding matches taken_answer taken_table
    cancelling_way e = (sym (answer_is Cancelling e), sym (table_is Cancelling e))

    pub ordinary_way : kind ≡ Ordinary → Way (must (not (no_room m match t && keeps full)) NoRoom (Ok (storing_answer m match t))) (cond (no_room m match t && keeps full) t (after_storing m match (record_for c l a lto) t))
    unfolding matches taken_answer taken_table
    ordinary_way e = (
      sym (answer_is Ordinary e),
      turned (no_room m match t && keeps full) ∙ sym (left (not (no_room m match t && keeps full)) NoRoom (storing_answer m match t) (after_storing m match (record_for c l a lto) t) t) ∙ sym (table_is Ordinary e),
    )
      where
        turned : (b : Bool) → cond b t (after_storing m match (record_for c l a lto) t) ≡ cond (not b) (after_storing m match (record_for c l a lto) t) t
        turned true = refl
        turned false = refl

-- expiry alone
module _ (t : List ℕ) (last minute : ℕ) where
  pub expiry_parts : is_ok (expire_answer t last minute) ≡ true → (table_fits t ≡ true) × (minute_unfit last minute ≡ false) × (expire_answer t last minute ≡ Ok (Freed (expired_in minute t) 0))
  unfolding expire_answer
  expiry_parts e = by_tests (table_fits t) (minute_unfit last minute) e
    where
      by_tests : (f u : Bool) → is_ok (must f Malformed (must (not u) WrongMinute (Ok (Freed (expired_in minute t) 0)))) ≡ true
          → (f ≡ true) × (u ≡ false) × (must f Malformed (must (not u) WrongMinute (Ok (Freed (expired_in minute t) 0))) ≡ Ok (Freed (expired_in minute t) 0))
      by_tests true false h = (refl, refl, refl)
      by_tests true true h = clash h refl
      by_tests false u h = clash h refl

  pub accepted_expiry : is_ok (expire_answer t last minute) ≡ true → expire_table t last minute ≡ after_expiry minute t
  unfolding expire_table
  accepted_expiry e = chosen _ _ _ e

  pub refused-expiry : (e : Refusal) → expire_answer t last minute ≡ Err e → expire_table t last minute ≡ t
  unfolding expire_table
  refused-expiry e r = passed_over _ _ _ (ap is_ok r)
