-- Bytes that are one record's, and others.
use Prim.Native.Nat.{ℕ}
use mathlib.Core.Path.{◌≡◌, refl, sym}
use mathlib.Core.Bool.{Bool, true, false, cond, ◌&&◌}
use mathlib.Core.List.{List}
use lib.ListN.{length}
use borrow.Author.Tests.{eq-eqb, ne_eqb}
use Rattle.bits.proofs.Choice.{chosen, passed_over}
use Rattle.record.specs.Layout.{record_size, is_record, free_record, as_record}
use Rattle.record.specs.Gone.{one_record}

module _ (r : List ℕ) where
  pub as_it_is : length r ≡ record_size → as_record r ≡ r
  unfolding as_record
  as_it_is e = chosen _ _ _ (eq-eqb (length r) record_size e)

  pub as_free : (length r ≡ record_size → ⊥) → as_record r ≡ free_record
  unfolding as_record
  as_free e = passed_over _ _ _ (ne_eqb (length r) record_size e)

  -- a test that a free record fails: as bytes that are one record's meet it
  pub one_as_record : (p : List ℕ → Bool) → p free_record ≡ false → one_record p r ≡ p (as_record r)
  unfolding as_record one_record
  one_as_record p e = by_size (is_record r)
    where
      by_size : (b : Bool) → b && p r ≡ p (cond b r free_record)
      by_size true = refl
      by_size false = sym e
