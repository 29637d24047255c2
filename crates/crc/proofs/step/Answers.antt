-- The feedback is 0 or 1, and both are computed.
use Prim.Native.Nat.{ℕ, zero, suc, ◌*◌, ◌/◌, ◌%◌, ◌^◌, ◌<◌}
use native.Mathlib.Omega.{arith}
use mathlib.Core.Path.{◌≡◌, refl, ap, ap₂, ◌∙◌}
use mathlib.Core.Bool.{Bool, true, false}
use lib.Bits.{bit_xor}
use mir.Val.{bool_byte}
use Rattle.bits.specs.Bits.{num}
use Rattle.crc.specs.Register.{polynomial, shifted}
use Rattle.crc.proofs.Width.{feedback_lt}
use Rattle.crc.proofs.step.Goals as goal

-- the stages that the feedback enters are the powers of the polynomial
taps : (f : ℕ) → f < 2 → bit_xor (bit_xor f (f * 2 ^ 5 % 2 ^ 16)) (f * 2 ^ 12 % 2 ^ 16) ≡ f * polynomial
taps zero h = refl
taps (suc zero) h = refl
taps (suc (suc f)) h = absurd (omega arith)

as_number : (b : Bool) → bool_byte b ≡ num b
unfolding num
as_number true = refl
as_number false = refl

pub returns : goal.returns
unfolding shifted
returns c =
    let r = c.args.register in
    let b = c.args.bit in
    let sixteen : r < 2 ^ 16 = omega arith in
    let moved : r * 2 % 2 ^ 16 ≡ r % 2 ^ 15 * 2 = omega arith in
    let feedback : bit_xor (r / 2 ^ 15) (bool_byte b) ≡ bit_xor (r / 2 ^ 15) (num b) = ap (bit_xor (r / 2 ^ 15)) (as_number b) in
    ap₂ bit_xor moved
    (ap (λ (f : ℕ). bit_xor (bit_xor f (f * 2 ^ 5 % 2 ^ 16)) (f * 2 ^ 12 % 2 ^ 16)) feedback
    ∙ taps (bit_xor (r / 2 ^ 15) (num b)) (feedback_lt r b sixteen))
