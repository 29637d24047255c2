-- One record renewed, and the ways out of a renewal.
use Prim.Native.Nat.{ℕ}
use mathlib.Core.Path.{◌≡◌, refl, sym, subst}
use mathlib.Core.Bool.{Bool, true, false, ◌&&◌}
use mathlib.Core.List.{List}
use lib.ListN.{length}
use Rattle.bits.proofs.Choice.{and_left, and_right, chosen, passed_over}
use Rattle.record.specs.Layout.{record_size, is_free, with_set}
use Rattle.record.specs.Classes.{set_of}
use Rattle.record.proofs.StoredSets.{length-put}
use Rattle.lent.specs.Table.{table_fits}
use Rattle.lent.specs.Catalogue.{catalogue_fits}
use Rattle.table.specs.Records.{over}
use Rattle.table.specs.Effect.{used_in}
use Rattle.table.proofs.Sweeps.{Keeps}
use Rattle.std.specs.Prelude.{Ok}
use Rattle.renewal.specs.Classes.{classes_in, all_classed}
use Rattle.renewal.specs.Renewal.{renewed, renew_fits, renew_answer, renew_table}

-- a free record, and a used one
module _ (c r : List ℕ) where
  pub free_renewed : is_free r ≡ true → renewed c r ≡ r
  unfolding renewed
  free_renewed e = chosen _ _ _ e

  pub used-renewed : is_free r ≡ false → renewed c r ≡ with_set (set_of (classes_in c r)) r
  unfolding renewed
  used-renewed e = passed_over _ _ _ e

  -- what holds of a record, and of one that is used with its new set, holds of the record renewed
  pub renewed-either : (P : List ℕ → Type 0) → (is_free r ≡ true → P r) → (is_free r ≡ false → P (with_set (set_of (classes_in c r)) r)) → P (renewed c r)
  renewed-either P free used = by_mark (is_free r) refl
    where
      by_mark : (b : Bool) → is_free r ≡ b → P (renewed c r)
      by_mark true e = subst P (sym (free_renewed e)) (free e)
      by_mark false e = subst P (sym (used-renewed e)) (used e)

pub renewed-keeps : (c : List ℕ) → Keeps (renewed c)
renewed-keeps c r long = renewed-either c r (λ x. length x ≡ record_size) (λ e. long) (λ e. length-put (set_of (classes_in c r)) r long)

module _ (t c : List ℕ) where
  pub fits_table : renew_fits t c ≡ true → table_fits t ≡ true
  unfolding renew_fits
  fits_table h = and_left (table_fits t) (catalogue_fits c && all_classed c t) h

  pub fits_catalogue : renew_fits t c ≡ true → catalogue_fits c ≡ true
  unfolding renew_fits
  fits_catalogue h = and_left (catalogue_fits c) (all_classed c t) (and_right (table_fits t) (catalogue_fits c && all_classed c t) h)

  pub fits-classed : renew_fits t c ≡ true → all_classed c t ≡ true
  unfolding renew_fits
  fits-classed h = and_right (catalogue_fits c) (all_classed c t) (and_right (table_fits t) (catalogue_fits c && all_classed c t) h)

  pub refused_renewal : renew_fits t c ≡ false → renew_table t c ≡ t
  unfolding renew_table
  refused_renewal e = passed_over _ _ _ e

  pub accepted_renewal : renew_fits t c ≡ true → (renew_answer t c ≡ Ok (used_in t)) × (renew_table t c ≡ over (renewed c) t)
  unfolding renew_answer renew_table
  accepted_renewal e = (chosen _ _ _ e, chosen _ _ _ e)
