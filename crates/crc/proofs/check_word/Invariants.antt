use mathlib.Core.Path.{◌≡◌}
use lib.ListN.{drop}
use Rattle.bits.specs.Fields.{flat}
use Rattle.crc.specs.Register.{entered}
use Rattle.crc.proofs.check_word.Given as goal

abbrev pub invariant-loop-byte : goal.invariant-loop-byte
invariant-loop-byte l = entered l.register (flat 8 (drop l.byte-index l.s)) ≡ entered 0xFFFF (flat 8 l.s)
