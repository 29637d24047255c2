-- The numbers up to the index are put.
use native.Mathlib.Omega.{arith}
use mathlib.Core.Path.{ap}
use lib.ListN.{get_or, take}
use lib.Seq.{take_all}
use Rattle.std.proofs.Common.{rules, ◌∷◌}
use Rattle.lines.specs.Decimal.{decimal}
use Rattle.lines.specs.Line.{space, fields}
use Rattle.lines.proofs.Puts.{put_as, put_then, put_nothing}
use Rattle.lines.proofs.Rooms.{fields-more}
use Rattle.lines.proofs.text.put_fields.Goals as goal

pub loop-value-init : goal.loop-value-init
unfolding fields
loop-value-init c = record { put = put_nothing c.args.at c.args.out.now; room = omega arith; same = search rules }

pub loop-value-preserved : goal.loop-value-preserved
loop-value-preserved c =
    let a = c.args in
    let l = c.loop-value in
    let call = c.put_field-end in
    let i = l.value-index in
    record {
      put =
          put_as a.at a.out.now call.result call.new.out (fields-more a.values.now i c.loop-value-test.true)
          (put_then a.at (fields (take i a.values.now)) (space ∷ decimal (get_or a.values.now i 0)) a.out.now (omega (arith, c.requires)) l.invariant.put call.ensures.put);
      room = omega (arith, l.invariant.room, call.ensures.upper_bound);
      same = search rules;
    }

pub returns-clause-put : goal.returns-clause-put
returns-clause-put c =
    let a = c.args in
    let l = c.loop-value in
    put_as a.at a.out.now l.end l.out (ap fields (take_all l.value-index a.values.now c.loop-value-test.false)) l.invariant.put
