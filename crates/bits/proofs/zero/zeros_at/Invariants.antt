use Prim.Native.Nat.{◌+◌, ◌-◌, ◌*◌}
use mathlib.Core.Path.{◌≡◌}
use Rattle.bits.specs.Bits.{all_zero}
use Rattle.bits.specs.Fields.{flat}
use Rattle.bits.specs.Overlay.{stretch}
use Rattle.bits.proofs.zero.zeros_at.Given as goal

-- the bits before the k-th stretch of 56 are zero
abbrev pub invariant-loop-k : goal.invariant-loop-k
invariant-loop-k l = all_zero (stretch l.at l.n (flat 8 l.s)) ≡ all_zero (stretch (l.at + l.k * 56) (l.n - l.k * 56) (flat 8 l.s))
