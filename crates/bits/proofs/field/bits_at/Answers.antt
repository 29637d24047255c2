-- The bytes that hold the field are folded into one number, and the field is divided out of it.
use Prim.Native.Nat.{ℕ, ◌/◌, ◌%◌, ◌^◌}
use mathlib.Core.Path.{ap₂, ◌∙◌}
use lib.Pow.{pow_pos}
use Rattle.bits.proofs.InBytes.{spare, read_at}
use Rattle.bits.proofs.field.bits_at.Goals as goal

pub nonzero_rem-result : goal.nonzero_rem-result
nonzero_rem-result c = rw c.pow2.ensures (pow_pos _)

pub returns : goal.returns
returns c =
    let a = c.args in
    ap₂ (λ (x p : ℕ). x / 2 ^ spare a.at a.w % p) c.load.ensures c.pow2.ensures
    ∙ read_at a.s.now a.at a.w c.requires.1
