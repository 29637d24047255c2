-- What a report is matched by (document 01, "The message table", step 2, as document 02, R-1 and R-4, have it; ISO 14819-1, clause 6.4).
use Rattle.std.specs.Prelude.{List, ℕ}
use Rattle.report.specs.declared.Report.{Report}
use Rattle.record.specs.declared.Service.{Service}
use Rattle.record.specs.declared.Key.{Key}
use Rattle.record.specs.Locations.{location_of}
use Rattle.classes.specs.Classes.{set_for}

-- its service, location and direction, and the set of its classes
abbrev pub key_of : List ℕ → Service → Report → Key
key_of catalogue s x =
    record { service = s; location = location_of s x; direction = x.head.direction; classes = record { 0 = set_for catalogue x } }
