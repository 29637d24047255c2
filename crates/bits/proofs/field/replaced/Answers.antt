-- The kept high part is a multiple of a power of two, and what is added is below that power.
use Prim.Native.Nat.{◌+◌, ◌*◌, ◌%◌, ◌^◌, ◌<◌, ◌≤◌}
use native.Mathlib.Omega.{arith}
use lib.Pow.{pow_mono}
use Rattle.bits.proofs.Replacing.{low_part_lt, kept_high_lt}
use Rattle.bits.proofs.field.replaced.Goals as goal
use Rattle.bits.proofs.field.replaced.Goals.{After-pow2}

-- the new field above the k lowest bits is below 2 ^ (w + k)
low_part : (c : After-pow2) → c.args.v % c.pow2.result * c.pow2-low.result + c.args.x % c.pow2-low.result < 2 ^ (c.args.w + c.args.k)
low_part c =
    let a = c.args in
    rw (c.pow2.ensures, c.pow2-low.ensures) (low_part_lt a.w a.k a.v a.x)

small : (c : After-pow2) → 2 ^ (c.args.w + c.args.k) ≤ 2 ^ 63
small c =
    let h : c.args.w + c.args.k ≤ 63 = omega arith in
    pow_mono h

pub overflow_mul-result-2 : goal.overflow_mul-result-2
overflow_mul-result-2 c = omega (arith, low_part c, small c)

pub overflow_add-result : goal.overflow_add-result
overflow_add-result c = omega (arith, low_part c, small c)

pub overflow_add-result-2 : goal.overflow_add-result-2
overflow_add-result-2 c =
    let a = c.args in
    record { fits = rw c.pow2-high.ensures (kept_high_lt (a.w + a.k) a.x _ (omega arith) c.ranges.x.fits (low_part c)) }
