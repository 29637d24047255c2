-- The number is that of the bytes passed.
use Prim.Native.Nat.{◌<◌, ◌^◌}
use native.Mathlib.Numerals.{add-one}
use native.Mathlib.Omega.{arith}
use mathlib.Core.Path.{refl}
use Rattle.bits.specs.Bits.{val}
use Rattle.bits.specs.Fields.{flat}
use Rattle.bits.proofs.Loading.{load-more, load_lt}
use Rattle.bits.proofs.bytes.fold.Goals as goal
use Rattle.bits.proofs.bytes.fold.Goals.{In-loop-b}

below : (c : In-loop-b) → c.loop-b.x < 2 ^ 56
below c = rw c.loop-b.invariant (load_lt c.args.s.now c.loop-b.b-index 7 (omega arith) (omega arith))

pub loop-b-init : goal.loop-b-init
unfolding flat val
loop-b-init c = refl

pub overflow_mul-x : goal.overflow_mul-x
overflow_mul-x c = omega (arith, below (goal.at.overflow_mul-x c).In-loop-b)

pub overflow_add-x : goal.overflow_add-x
overflow_add-x c = omega (arith, below (goal.at.overflow_add-x c).In-loop-b, c.type_inv.s c.loop-b.b-index)

pub loop-b-preserved : goal.loop-b-preserved
loop-b-preserved c =
    let s = c.args.s.now in
    let i = c.loop-b.b-index in
    rw (add-one, c.from.ensures, c.loop-b.invariant) (load-more s i c.loop-b-test.true (c.type_inv.s i).fits)
