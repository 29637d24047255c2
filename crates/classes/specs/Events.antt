-- The events of a report (ISO 14819-1, clauses 5.5.9 and 6.4; document 02, R-4).
use Rattle.std.specs.Prelude.{ℕ, cond, List, [], ◌∷◌, eqb}
use Rattle.content.specs.declared.item.Item.{Item}
use Rattle.content.specs.Stored.{listed}
use Rattle.report.specs.declared.Report.{Report}

-- the label of an additional event
abbrev pub additional : ℕ
additional = 9

-- the additional events among items
unfoldable pub additional_events : List Item → List ℕ
additional_events [] = []
additional_events (i ∷ its) = cond (eqb i.label additional) (i.value ∷ additional_events its) (additional_events its)

-- the first event, and the additional ones
unfoldable pub events_of : Report → List ℕ
events_of r = r.head.event ∷ additional_events (listed r.items)
