-- A flag is one bit.
use native.Mathlib.Omega.{arith}
use Rattle.bits.specs.Fields.{flat}
use Rattle.drm.proofs.Front.{bit_lt}
use Rattle.drm.proofs.read.ua_flag.Goals as goal

pub returns-else-tmchi-eq0-clause-small : goal.returns-else-tmchi-eq0-clause-small
returns-else-tmchi-eq0-clause-small c = omega (arith, c.bits_at.ensures, bit_lt 7 (flat 8 c.args.p.now))
