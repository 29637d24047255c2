-- The update classes of a record, from its events (ISO 14819-1, clause 6.4; document 02, R-4).
use Rattle.std.specs.Prelude.{ℕ, Bool, ◌&&◌, ◌||◌, List, []}
use Rattle.std.specs.Prelude.{Ok, Err, is_ok}
use Rattle.report.specs.Read.{Reading}
use Rattle.record.specs.Layout.{is_free, event_in}
use Rattle.record_report.specs.Reads.{message_of}
use Rattle.lent.specs.Catalogue.{entry_at, has_class}
use Rattle.lent.specs.Records.{records, all_of}
use Rattle.classes.specs.Classes.{classes_of}

-- of a message
abbrev pub message_classes : List ℕ → Reading → List ℕ
message_classes catalogue (Ok x) = classes_of catalogue x
message_classes catalogue (Err u) = []

-- of a record: those of the report that it reads as
unfoldable pub classes_in : (catalogue r : List ℕ) → List ℕ
classes_in catalogue r = message_classes catalogue (message_of r)

-- a record that is free, or whose content reads as items and whose first event has a class
unfoldable pub classed : (catalogue r : List ℕ) → Bool
classed catalogue r = is_free r || is_ok (message_of r) && has_class (entry_at catalogue (event_in r))

-- every record of a table
abbrev pub all_classed : (catalogue t : List ℕ) → Bool
all_classed catalogue t = all_of (classed catalogue) (records t)
