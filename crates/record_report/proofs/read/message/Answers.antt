-- The single-group report, or the items of the content.
use mathlib.Core.Path.{sym, ap, ap₂, ◌∙◌}
use Rattle.std.specs.Prelude.{Result, Ok}
use Rattle.report.specs.declared.Report.{Report}
use Rattle.report.specs.declared.Unreadable.{Unreadable}
use Rattle.report.specs.Report.{single_report}
use Rattle.report.specs.Read.{read_items}
use Rattle.record.specs.Layout.{head_in, real_in, duration_in, diversion_in}
use Rattle.record.specs.WellFormed.{content_bits}
use Rattle.record.proofs.AsRecord.{as_it_is}
use Rattle.record_report.specs.Reads.{with_real}
use Rattle.record_report.proofs.Readings.{single-message, multi-message, held-bits}
use Rattle.record_report.proofs.read.message.Goals as goal

ok : Report → Result Report Unreadable
ok x = Ok x

pub returns-then-groups-eq1 : goal.returns-then-groups-eq1
unfolding ok
returns-then-groups-eq1 c =
    let r = c.args.r.now in
    let same = as_it_is r c.requires.0 in
    let head = c.head-head.ensures ∙ ap head_in same in
    let real = c.real_location-real.ensures ∙ ap real_in same in
    ap ok (c.with_real.ensures ∙ ap₂ with_real real (c.single-single.ensures ∙ ap (single_report (duration_in r) (diversion_in r)) head))
    ∙ sym (single-message r c.if-groups-eq1.true)

pub returns-else-groups-eq1 : goal.returns-else-groups-eq1
returns-else-groups-eq1 c =
    let r = c.args.r.now in
    let same = as_it_is r c.requires.0 in
    let head = c.head-head.ensures ∙ ap head_in same in
    let real = c.real_location-real.ensures ∙ ap real_in same in
    let bits = held-bits r c.content.result c.requires.2 c.content.ensures in
    c.with_items.ensures
    ∙ (λ i. read_items (head i) (real i) (content_bits r) (bits i))
    ∙ sym (multi-message r c.if-groups-eq1.false)
