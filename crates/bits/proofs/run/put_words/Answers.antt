-- The fields before i are in place.
use Prim.Native.Nat.{ℕ, suc, ◌+◌, ◌*◌, ◌≤◌, ◌<◌}
use native.Mathlib.Nat.{suc-mul, mul-le-mul_right}
use native.Mathlib.Numerals.{add-one}
use native.Mathlib.Omega.{arith}
use mathlib.Core.Path.{◌≡◌, sym, ap, ◌∙◌}
use mathlib.Core.Bool.{Bool}
use mathlib.Core.List.{List, [], ◌∷◌, ◌++◌}
use lib.ListN.{length, take, get_or}
use lib.Seq.{take-suc, length-take-le}
use Rattle.bits.specs.Bits.{bits}
use Rattle.bits.specs.Fields.{flat}
use Rattle.bits.specs.Overlay.{overlay}
use Rattle.bits.proofs.Stretch.{overlay-append, overlay-none}
use Rattle.bits.proofs.Fields.{length-flat, flat_append, flat_one}
use Rattle.bits.proofs.run.put_words.Goals as goal

more : (l : List Bool) (at w i : ℕ) (ws : List ℕ) → i < length ws → at + length ws * w ≤ length l
    → overlay (at + i * w) (bits w (get_or ws i 0)) (overlay at (flat w (take i ws)) l) ≡ overlay at (flat w (take (suc i) ws)) l
more l at w i ws h g =
    let done = flat w (take i ws) in
    let e : length done ≡ i * w = length-flat w (take i ws) ∙ ap (λ (n : ℕ). n * w) (length-take-le i ws (omega arith)) in
    ap (λ (n : ℕ). overlay (at + n) (bits w (get_or ws i 0)) (overlay at done l)) (sym e)
    ∙ overlay-append at done (bits w (get_or ws i 0)) l (omega (arith, e, mul-le-mul_right w h, suc-mul i w))
    ∙ ap (λ (b : List Bool). overlay at b l)
    (ap (λ (b : List Bool). done ++ b) (sym (flat_one w (get_or ws i 0))) ∙ sym (flat_append w (take i ws) (get_or ws i 0 ∷ [])) ∙ ap (flat w) (sym (take-suc ws i 0 h)))

pub loop-i-init : goal.loop-i-init
unfolding flat
loop-i-init c = sym (overlay-none c.args.at (flat 8 c.args.s.now))

pub loop-i-preserved : goal.loop-i-preserved
loop-i-preserved c =
    let a = c.args in
    let l = c.loop-i in
    rw (add-one, c.put_bits.ensures, l.invariant) (more (flat 8 a.s.now) a.at a.w l.i a.ws.now c.loop-i-test.true (omega (arith, length-flat 8 a.s.now)))
