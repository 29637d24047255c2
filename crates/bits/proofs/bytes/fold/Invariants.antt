use mathlib.Core.Path.{◌≡◌}
use lib.ListN.{take}
use Rattle.bits.specs.Bits.{val}
use Rattle.bits.specs.Fields.{flat}
use Rattle.bits.proofs.bytes.fold.Given as goal

abbrev pub invariant-loop-b : goal.invariant-loop-b
invariant-loop-b l = l.x ≡ val (flat 8 (take l.b-index l.s))
