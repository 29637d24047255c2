-- A bit below 64 is not shifted out.
use Prim.Native.Nat.{ℕ, ◌*◌, ◌%◌, ◌^◌}
use mathlib.Core.Path.{◌≡◌, ap, ◌∙◌}
use native.Mathlib.Omega.{arith}
use native.Mathlib.Nat.{mod-eq_of_lt}
use lib.Pow.{pow-lt}
use lib.Bits.{bit_or}
use Rattle.classes.proofs.with_class.Goals as goal

pub returns : goal.returns
returns c =
    let a = c.args in
    let one : 1 * 2 ^ a.class ≡ 2 ^ a.class = omega arith in
    ap (bit_or a.classes.0) (ap (λ (n : ℕ). n % 18446744073709551616) one ∙ mod-eq_of_lt (pow-lt c.requires))
