-- A single-group message reads; else its content does or does not.
use mathlib.Core.Path.{sym, ap, ◌∙◌}
use mathlib.Core.Bool.{Bool, true, false}
use mathlib.Core.List.{List}
use Rattle.std.specs.Prelude.{is_ok}
use borrow.Author.Tests.{eq-eqb}
use Rattle.content.specs.Content.{content}
use Rattle.report.proofs.Wholes.{items-given}
use Rattle.record.specs.Layout.{groups_in, head_in, real_in}
use Rattle.record.specs.WellFormed.{content_bits}
use Rattle.record_report.proofs.Readings.{has_known, message_by, single-message, multi-message, held-bits}
use Rattle.record_report.proofs.read.reads.Goals as goal

pub returns-then-not-has_groups : goal.returns-then-not-has_groups
returns-then-not-has_groups c = sym (ap is_ok (message_by c.args.r.now false (sym c.has_groups.ensures ∙ c.if-not-has_groups.true)))

pub returns-then-groups-eq1 : goal.returns-then-groups-eq1
returns-then-groups-eq1 c =
    let r = c.args.r.now in
    eq-eqb (groups_in r) 1 c.if-groups-eq1.true
    ∙ sym (ap is_ok (message_by r true (sym c.has_groups.ensures ∙ c.if-not-has_groups.false) ∙ single-message r c.if-groups-eq1.true))

pub returns-else-groups-eq1 : goal.returns-else-groups-eq1
returns-else-groups-eq1 c =
    let r = c.args.r.now in
    let has = sym c.has_groups.ensures ∙ c.if-not-has_groups.false in
    let bits = held-bits r c.content.result (has_known r has).2 c.content.ensures in
    c.reads.ensures
    ∙ ap (λ (l : List Bool). is_ok (content l)) bits
    ∙ sym (ap is_ok (message_by r true has ∙ multi-message r c.if-groups-eq1.false) ∙ items-given (head_in r) (real_in r) (content_bits r) _)
