-- Where bits break as items (document 02, R-8; ISO 14819-1 clause 5.5.1).
use Rattle.std.specs.Prelude.{ℕ, ◌<◌, ◌≤◌, ◌≡◌, Bool, true, false, List, ◌++◌, length, take, drop}
use Rattle.refusal.specs.declared.Refusal.{Refusal}
use Rattle.refusal.specs.declared.Refusal.TheVariants.{CutShort, Label15}
use Rattle.bits.specs.Bits.{val, all_zero}
use Rattle.content.specs.Widths.{label_width, width, sublabelled}
use Rattle.content.specs.Packing.{packing, all_fit}
use Rattle.content.specs.declared.item.Item.{Item}

-- no item can be taken off the front, and the refusal: a label does not fit, or its value does not; or the label is 15
pub data NoItem (l : List Bool) : Refusal → Type 0 where
  no_label : length l < label_width → NoItem l CutShort
  no_value : label_width ≤ length l → (val (take label_width l) ≡ sublabelled → ⊥)
      → length (drop label_width l) < width (val (take label_width l)) → NoItem l CutShort
  label15 : label_width ≤ length l → val (take label_width l) ≡ sublabelled → NoItem l Label15

-- bits of which the items begin at bit `at` break at a place: from there to the place stand items one after the other, and from the place on,
-- where some bit is set, no item can be taken
pub record BreaksAt (at : ℕ) (l : List Bool) (place : ℕ) (refusal : Refusal) : Type 0 where
  pub its : List Item
  pub fit : all_fit its ≡ true
  pub before : take place l ≡ take at l ++ packing its
  pub set : all_zero (drop place l) ≡ false
  pub none : NoItem (drop place l) refusal
