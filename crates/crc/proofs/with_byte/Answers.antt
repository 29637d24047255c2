-- The register and the bits left of the byte give what the first register and all its bits give.
use Prim.Native.Nat.{ℕ, suc, ◌-◌}
use native.Mathlib.Omega.{arith}
use mathlib.Core.Path.{◌≡◌, sym, ap, ◌∙◌}
use Rattle.bits.specs.Bits.{bits}
use Rattle.crc.specs.Register.{entered}
use Rattle.crc.proofs.Entering.{bit-next}
use Rattle.crc.proofs.with_byte.Goals as goal

pub loop-i-preserved : goal.loop-i-preserved
loop-i-preserved c =
    let l = c.loop-i in
    let one_less : l.i ≡ suc (l.i - 1) = omega (arith, c.loop-i-test.true) in
    ap (λ (r : ℕ). entered r (bits (l.i - 1) c.args.byte)) c.step-register.ensures ∙ bit-next l.register l.i (l.i - 1) c.args.byte one_less ∙ l.invariant

pub returns : goal.returns
unfolding entered bits
returns c =
    let l = c.loop-i in
    let none : l.i ≡ 0 = omega (arith, c.loop-i-test.false) in
    sym (ap (λ (n : ℕ). entered l.register (bits n c.args.byte)) none) ∙ l.invariant
