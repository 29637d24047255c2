-- The laws of the bits that are left.
use Prim.Native.Nat.{ℕ, ◌+◌, ◌-◌, ◌<◌, ◌≤◌}
use native.Mathlib.Omega.{arith}
use mathlib.Core.Path.{◌≡◌, sym, ap, ap₂, ◌∙◌}
use mathlib.Core.Bool.{false}
use mathlib.Core.List.{◌++◌}
use lib.ListN.{length, take, drop, length-append, length-drop, length-replicate}
use lib.Seq.{length-take-le, take-take, take-append-le}
use Rattle.bits.proofs.Stretch.{drop-take}
use Rattle.content.specs.Packing.{zeros}
use Rattle.content.specs.Halves.{bits_of, content_of, remaining}
use Rattle.content.specs.declared.rest.Rest.{Rest}
use Rattle.content.proofs.Halves.{length-bits_of, bits_of-content_of}

pub length-remaining : (r : Rest) → r.left < 128 → length (remaining r) ≡ r.left
unfolding remaining
length-remaining r h = length-take-le r.left (bits_of r.bits) (omega (arith, length-bits_of r.bits))

pub take_remaining : (r : Rest) (w : ℕ) → w ≤ r.left → take w (remaining r) ≡ take w (bits_of r.bits)
unfolding remaining
take_remaining r w h = take-take w r.left (bits_of r.bits) h

-- w bits are dropped by a shift
pub drop-remaining : (r : Rest) (w : ℕ) → w ≤ r.left → r.left < 128
    → remaining (record { bits = content_of (drop w (bits_of r.bits) ++ zeros w); left = r.left - w }) ≡ drop w (remaining r)
unfolding remaining
drop-remaining r w h g =
    let l = bits_of r.bits in
    let n : length (drop w l) ≡ 128 - w = length-drop w l ∙ ap (λ (m : ℕ). m - w) (length-bits_of r.bits) in
    let e : length (drop w l ++ zeros w) ≡ 128 = let s : 128 - w + w ≡ 128 = omega arith in length-append (drop w l) (zeros w) ∙ ap₂ (λ (x y : ℕ). x + y) n (length-replicate w false) ∙ s in
    let s : w + (r.left - w) ≡ r.left = omega arith in
    ap (take (r.left - w)) (bits_of-content_of (drop w l ++ zeros w) e)
    ∙ take-append-le (r.left - w) (drop w l) (zeros w) (omega arith)
    ∙ sym (drop-take w (r.left - w) l)
    ∙ ap (λ (m : ℕ). drop w (take m l)) s
