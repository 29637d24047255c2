-- What the reading of the content says; the place is what stands before the bits left.
use native.Mathlib.Omega.{arith}
use mathlib.Core.Path.{sym, ap, ◌∙◌}
use Rattle.std.specs.Prelude.{Ok, Err}
use Rattle.content.specs.Halves.{remaining}
use Rattle.report.specs.Report.{multi_report}
use Rattle.report.proofs.Messages.{read-items, read-refused, left_within, items-listed, items-count, items-fit, items-filled}
use Rattle.report.proofs.Wholes as whole
use Rattle.report.proofs.read.read_items.Goals as goal

pub of_items-requires : goal.of_items-requires
unfolding remaining
of_items-requires c =
    let l = remaining c.args.rest in
    let s = c.in-Ok.items in
    let h = read-items l s c.in-Ok.ensures in
    (items-count l s h, items-fit l s h, items-filled l s h)

pub placed-requires : goal.placed-requires
unfolding remaining
placed-requires c =
    let a = c.args in
    λ broken e.
    let b = left_within a.rest.bits a.rest.left broken (read-refused (remaining a.rest) c.in-Err.unread c.in-Err.ensures ∙ ap Err e) in
    let w = c.requires b.1 in
    (omega arith, w.1)

pub returns-in-Ok : goal.returns-in-Ok
unfolding remaining
returns-in-Ok c =
    let a = c.args in
    let l = remaining a.rest in
    let h = read-items l c.in-Ok.items c.in-Ok.ensures in
    ap Ok (c.of_items.ensures ∙ ap (multi_report a.head a.real) (items-listed l c.in-Ok.items h)) ∙ sym (whole.items-read a.head a.real a.whole l h.its h.reading)

pub returns-in-Err : goal.returns-in-Err
unfolding remaining
returns-in-Err c =
    let a = c.args in
    let e = read-refused (remaining a.rest) c.in-Err.unread c.in-Err.ensures in
    ap Err c.placed.ensures ∙ sym (whole.items_refused a.head a.real a.whole (remaining a.rest) _ e)
