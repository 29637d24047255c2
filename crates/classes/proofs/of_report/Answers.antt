-- The additional events, and then the first one.
use Prim.Native.Nat.{ℕ}
use mathlib.Core.Path.{sym, ap, ◌∙◌}
use Rattle.record.specs.declared.classes.Classes.{Classes}
use Rattle.content.specs.Stored.{listed}
use Rattle.classes.specs.Events.{additional_events, events_of}
use Rattle.classes.specs.Classes.{classes_of, with_event}
use Rattle.classes.proofs.EventClasses.{event_more}
use Rattle.classes.proofs.of_report.Goals as goal

pub returns : goal.returns
unfolding classes_of events_of
returns c =
    let a = c.args in
    let r = a.report in
    ap (λ (x : Classes). x.0) c.with_event.ensures
    ∙ ap (λ (set : ℕ). with_event a.catalogue.now set r.head.event) c.of_items.ensures
    ∙ sym (event_more a.catalogue.now r.head.event (additional_events (listed r.items)))
