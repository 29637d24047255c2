use mathlib.Core.Path.{◌≡◌}
use Rattle.bits.specs.Bits.{bits}
use Rattle.crc.specs.Register.{entered}
use Rattle.crc.proofs.with_byte.Given as goal

abbrev pub invariant-loop-i : goal.invariant-loop-i
invariant-loop-i l = entered l.register (bits l.i l.byte) ≡ entered l.initial.register (bits 8 l.byte)
