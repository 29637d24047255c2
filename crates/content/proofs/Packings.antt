-- The laws of packed items.
use Prim.Native.Nat.{ℕ, ◌+◌, ◌*◌, ◌≤◌}
use native.Mathlib.Omega.{arith}
use mathlib.Core.Path.{◌≡◌, refl, ap, ap₂, ◌∙◌}
use mathlib.Core.Bool.{Bool, true, false, ◌&&◌, and-false}
use mathlib.Core.List.{List, [], ◌∷◌, ◌++◌, append_assoc}
use lib.ListN.{length, length-append}
use Rattle.bits.specs.Bits.{bits, all_zero}
use Rattle.bits.proofs.Value.{length-bits, all_zero-append}
use Rattle.content.specs.Widths.{label_width, width}
use Rattle.content.specs.Packing.{item_bits, packing, item_fits, all_fit, last_zero}
use Rattle.content.specs.declared.item.Item.{Item}
use Rattle.bits.proofs.Choice.{and_left, and_right}
use Rattle.content.proofs.OneItem.{all_zero-item_bits}

pub length-item_bits : (i : Item) → length (item_bits i) ≡ label_width + width i.label
unfolding item_bits
length-item_bits i =
    length-append (bits label_width i.label) (bits (width i.label) i.value)
    ∙ ap₂ (λ (n m : ℕ). n + m) (length-bits label_width i.label) (length-bits (width i.label) i.value)

pub length-packing : (i : Item) (its : List Item) → length (packing (i ∷ its)) ≡ label_width + width i.label + length (packing its)
unfolding packing
length-packing i its = length-append (item_bits i) (packing its) ∙ ap (λ (n : ℕ). n + length (packing its)) (length-item_bits i)

-- an item takes four bits or more
pub packing_long : (its : List Item) → 4 * length its ≤ length (packing its)
packing_long [] = omega arith
packing_long (i ∷ its) = let h = packing_long its in omega (arith, length-packing i its)

pub packing-append : (i : Item) (its : List Item) (z : List Bool) → packing (i ∷ its) ++ z ≡ item_bits i ++ (packing its ++ z)
unfolding packing
packing-append i its z = append_assoc (item_bits i) (packing its) z

pub last_zero-tail : (i : Item) (its : List Item) → last_zero (i ∷ its) ≡ false → last_zero its ≡ false
unfolding last_zero
last_zero-tail i [] h = refl
last_zero-tail i (j ∷ its) h = h

-- items of which the last is not the zero item have a bit that is set
pub packing-set : (i : Item) (its : List Item) (z : List Bool) → all_fit (i ∷ its) ≡ true → last_zero (i ∷ its) ≡ false → all_zero (packing (i ∷ its) ++ z) ≡ false
unfolding all_fit last_zero
packing-set i [] z f h =
    ap all_zero (packing-append i [] z)
    ∙ all_zero-append (item_bits i) (packing [] ++ z)
    ∙ ap (λ (b : Bool). b && all_zero (packing [] ++ z)) (all_zero-item_bits i (and_left (item_fits i) true f) ∙ h)
packing-set i (j ∷ its) z f h =
    ap all_zero (packing-append i (j ∷ its) z)
    ∙ all_zero-append (item_bits i) (packing (j ∷ its) ++ z)
    ∙ ap (λ (b : Bool). all_zero (item_bits i) && b) (packing-set j its z (and_right (item_fits i) (all_fit (j ∷ its)) f) h)
    ∙ and-false (all_zero (item_bits i))
