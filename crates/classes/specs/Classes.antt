-- The update classes of a report (ISO 14819-1, clause 6.4; document 02, R-4).
use Rattle.std.specs.Prelude.{ℕ, cond, List, [], ◌∷◌, eqb}
use Rattle.content.specs.declared.item.Item.{Item}
use Rattle.report.specs.declared.Report.{Report}
use Rattle.record.specs.Classes.{with_class, set_of}
use Rattle.lent.specs.Catalogue.{entry_at, class_of, has_class}
use Rattle.classes.specs.Events.{additional, events_of}

-- the classes of events, by the catalogue: an event that has none is passed over
unfoldable pub event_classes : (catalogue events : List ℕ) → List ℕ
event_classes catalogue [] = []
event_classes catalogue (e ∷ es) = cond (has_class (entry_at catalogue e)) (class_of (entry_at catalogue e) ∷ event_classes catalogue es) (event_classes catalogue es)

-- of a report: those of all its events
unfoldable pub classes_of : List ℕ → Report → List ℕ
classes_of catalogue r = event_classes catalogue (events_of r)

-- as a set
abbrev pub set_for : List ℕ → Report → ℕ
set_for catalogue r = set_of (classes_of catalogue r)

-- a set with the class of an event, if it has one
abbrev pub with_event : (catalogue : List ℕ) → (set event : ℕ) → ℕ
with_event catalogue set e = cond (has_class (entry_at catalogue e)) (with_class set (class_of (entry_at catalogue e))) set

-- a set with the class of an item, if it is an additional event that has one
abbrev pub with_item : (catalogue : List ℕ) → (set : ℕ) → Item → ℕ
with_item catalogue set i = cond (eqb i.label additional) (with_event catalogue set i.value) set
