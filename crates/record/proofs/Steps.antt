-- Freeing a record, and tests of bytes that are one record's.
use Prim.Native.Nat.{ℕ}
use mathlib.Core.Path.{◌≡◌, refl, sym, ap}
use mathlib.Core.Bool.{Bool, true, false, cond, not, ◌&&◌, ◌||◌}
use mathlib.Core.List.{List}
use lib.ListN.{length, replicate}
use borrow.Author.Tests.{eqb-true, eq-eqb, ne_eqb}
use Rattle.bits.specs.Bits.{num}
use Rattle.bits.proofs.Choice.{and_left, chosen, passed_over}
use Rattle.record.specs.Layout.{record_size, is_record, free_record}
use Rattle.record.specs.Gone.{either, only_second, freed_if, one_record}

-- freeing one record
module _ (p : List ℕ → Bool) (r : List ℕ) where
  pub freed : p r ≡ true → (1 ≡ num (p r)) × (free_record ≡ freed_if p r)
  unfolding freed_if num
  freed e = (sym (ap num e), sym (chosen _ _ _ e))

  pub unfreed : p r ≡ false → (0 ≡ num (p r)) × (r ≡ freed_if p r)
  unfolding freed_if num
  unfreed e = (sym (ap num e), sym (passed_over _ _ _ e))

-- a test of bytes that are one record's, and of others
module _ (p : List ℕ → Bool) (r : List ℕ) where
  pub one_record_lem : length r ≡ record_size → one_record p r ≡ p r
  unfolding one_record
  one_record_lem e = ap (λ (b : Bool). b && p r) (eq-eqb (length r) record_size e)

  pub no_record : (length r ≡ record_size → ⊥) → one_record p r ≡ false
  unfolding one_record
  no_record e = ap (λ (b : Bool). b && p r) (ne_eqb (length r) record_size e)

  pub one_freed : length r ≡ record_size → freed_if (one_record p) r ≡ freed_if p r
  unfolding freed_if
  one_freed e = ap (λ (b : Bool). cond b free_record r) (one_record_lem e)

  -- its bytes, as many zeros, are a free record's
  pub cleared : one_record p r ≡ true → replicate (length r) 0 ≡ free_record
  unfolding one_record
  cleared e = ap (λ (n : ℕ). replicate n 0) (eqb-true (length r) record_size (and_left (is_record r) (p r) e))

-- freeing by one test or by another
module _ (p q : List ℕ → Bool) (r : List ℕ) where
  pub only : one_record (only_second p q) r ≡ not (one_record p r) && one_record q r
  unfolding one_record
  only = by_size (is_record r) (p r) (q r)
    where
      by_size : (b x y : Bool) → b && (not x && y) ≡ not (b && x) && (b && y)
      by_size true x y = refl
      by_size false x y = refl

  pub or_other : one_record (either p q) r ≡ one_record p r || one_record q r
  unfolding one_record
  or_other = by_size (is_record r) (p r) (q r)
    where
      by_size : (b x y : Bool) → b && (x || y) ≡ (b && x) || (b && y)
      by_size true x y = refl
      by_size false x y = refl
