-- The eight bytes are one number, and the field is divided out of it.
use Prim.Native.Nat.{ℕ, ◌-◌, ◌*◌, ◌/◌, ◌%◌, ◌^◌}
use native.Mathlib.Omega.{arith}
use mathlib.Core.Path.{ap₂, ◌∙◌}
use lib.Pow.{pow_pos}
use Rattle.bits.proofs.InBytes.{read_in_eight}
use Rattle.bits.proofs.run.in_eight.Goals as goal

pub nonzero_rem-result : goal.nonzero_rem-result
nonzero_rem-result c = rw c.pow2.ensures (pow_pos _)

pub returns : goal.returns
returns c =
    let a = c.args in
    ap₂ (λ (x p : ℕ). x / 2 ^ (64 - (a.at - a.from * 8) - a.w) % p) c.load.ensures c.pow2.ensures
    ∙ read_in_eight a.s.now a.from a.at a.w (omega arith) (omega arith) (omega arith)
