-- What comes of making a record.
use Prim.Native.Nat.{ℕ}
use mathlib.Core.Path.{◌≡◌, refl, sym, ap, ap₂, ◌∙◌}
use mathlib.Core.Bool.{Bool, true, false, cond, ◌&&◌}
use mathlib.Core.List.{List}
use lib.ListN.{length}
use borrow.Author.Tests.{eq-eqb, ne_eqb}
use Rattle.std.specs.Prelude.{Result, Ok, Err}
use Rattle.std.specs.Result.{IsErrAnd}
use Rattle.report.specs.Fits.{report_fits}
use Rattle.refusal.specs.declared.Refusal.{Refusal}
use Rattle.refusal.specs.declared.Refusal.TheVariants.{Unfit, Malformed}
use Rattle.refusal.specs.Checks.{must}
use Rattle.bits.proofs.Choice.{chosen, passed_over}
use Rattle.record.specs.Layout.{record_size, is_record}
use Rattle.record_report.specs.declared.Kept.{Kept}
use Rattle.record_report.specs.Made.{record_of, marks_fit, can_make, making_in, bytes_made}

-- an error that is handed on
pub told : {A E : Type 0} (r : Result A E) (e : E) → IsErrAnd r (λ x. x ≡ e) → r ≡ Err e
told (Ok a) e h = absurd h
told (Err x) e h = ap Err h

module _ (out : List ℕ) (k : Kept) (set : ℕ) where
  pub bytes_made_lem : length out ≡ record_size → can_make k set ≡ true → bytes_made out k set ≡ record_of k set
  unfolding bytes_made
  bytes_made_lem e can = chosen _ _ _ (ap₂ (λ (a b : Bool). a && b) (eq-eqb (length out) record_size e) can)

  -- bytes that are not one record's
  pub not_a_record : (length out ≡ record_size → ⊥) → (Err Malformed ≡ making_in out k set) × (out ≡ bytes_made out k set)
  unfolding making_in bytes_made
  not_a_record e =
      let off = ne_eqb (length out) record_size e in
      (sym (passed_over _ _ _ off), sym (passed_over _ _ _ (ap (λ (b : Bool). b && can_make k set) off)))

  -- by the tests of what it is made of
  pub made_by : (x y : Bool) → length out ≡ record_size → marks_fit k set ≡ x → report_fits k.report ≡ y
      → (must (x && y) Unfit (Ok (tt {0})) ≡ making_in out k set) × (cond (x && y) (record_of k set) out ≡ bytes_made out k set)
  unfolding making_in bytes_made can_make
  made_by x y e fx fy =
      let on = eq-eqb (length out) record_size e in
      let can : can_make k set ≡ x && y = ap₂ (λ (a b : Bool). a && b) fx fy in (
        sym (ap₂ (λ (a b : Bool). must a Malformed (must b Unfit (Ok (tt {0})))) on can),
        sym (ap₂ (λ (a b : Bool). cond (a && b) (record_of k set) out) on can),
      )

  -- a refusal leaves the bytes, and else they are the record
  pub refused-keeps : (x : Refusal) → making_in out k set ≡ Err x → bytes_made out k set ≡ out
  unfolding making_in bytes_made
  refused-keeps x = by_tests (is_record out) (can_make k set)
    where
      by_tests : (a b : Bool) → must a Malformed (must b Unfit (Ok (tt {0}))) ≡ Err x → cond (a && b) (record_of k set) out ≡ out
      by_tests true true e = absurd (cc)
      by_tests true false e = refl
      by_tests false b e = refl

  pub accepted_makes : making_in out k set ≡ Ok tt → bytes_made out k set ≡ record_of k set
  unfolding making_in bytes_made
  accepted_makes = by_tests (is_record out) (can_make k set)
    where
      by_tests : (a b : Bool) → must a Malformed (must b Unfit (Ok (tt {0}))) ≡ Ok tt → cond (a && b) (record_of k set) out ≡ record_of k set
      by_tests true true e = refl
      by_tests true false e = absurd (cc)
      by_tests false b e = absurd (cc)
