-- What passes the tests has its length in the range.
use native.Mathlib.Omega.{arith}
use mathlib.Core.Path.{sym, ◌∙◌}
use lib.ListN.{length}
use Rattle.bits.proofs.Choice.{between}
use Rattle.crc.proofs.Blocks.{length-payload}
use Rattle.drm.proofs.Whole.{accepted}
use Rattle.drm.proofs.DataUnit.read.Goals as goal

pub overflow_sub-end : goal.overflow_sub-end
overflow_sub-end c =
    let s = c.args.s.now in
    omega (arith, between 8 (length s) 128 (accepted s (length c.args.out.now) (sym c.test_unit.ensures ∙ c.in_ok-test_unit.was)).0)

pub take_payload-requires : goal.take_payload-requires
take_payload-requires c =
    let s = c.args.s.now in
    let passed = accepted s (length c.args.out.now) (sym c.test_unit.ensures ∙ c.in_ok-test_unit.was) in
    let fit = between 8 (length s) 128 passed.0 in
    (omega (arith, fit, length-payload s), omega (arith, fit, length-payload s), passed.1)
