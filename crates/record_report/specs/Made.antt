-- The record of a report (documents 01, "The message table", and 02, R-1 and R-5).
use Rattle.std.specs.Prelude.{ℕ, ◌/◌, ◌%◌, Bool, cond, ◌&&◌, List, [], ◌∷◌, ◌++◌, leb, Result, Ok}
use Rattle.refusal.specs.declared.Refusal.{Refusal}
use Rattle.refusal.specs.declared.Refusal.TheVariants.{Unfit, Malformed}
use Rattle.refusal.specs.Checks.{must}
use Rattle.word.specs.declared.Head.{Head}
use Rattle.content.specs.Stored.{listed}
use Rattle.location.specs.declared.Location.{Location}
use Rattle.report.specs.Fits.{report_fits}
use Rattle.report.specs.Record.{bytes_of, groups_of}
use Rattle.record.specs.declared.Service.{Service}
use Rattle.record.specs.Services.{service_fits}
use Rattle.record.specs.Locations.{location_of}
use Rattle.record.specs.Layout.{four_bytes, eight_bytes, is_record}
use Rattle.record.specs.Classes.{set_fits}
use Rattle.record_report.specs.declared.Kept.{Kept}

-- bytes 0 to 3: the mark of a used record, groups, SID, LTN
abbrev pub mark_bytes : ℕ → Service → List ℕ
mark_bytes groups s = 1 ∷ groups ∷ s.sid ∷ s.ltn ∷ []

-- bytes 4 to 11: the location's code, event, direction, extent, diversion, duration
abbrev pub head_bytes : Location → Head → ℕ → ℕ → List ℕ
head_bytes l h diversion duration = l.code % 256 ∷ l.code / 256 ∷ h.event % 256 ∷ h.event / 256 ∷ h.direction ∷ h.extent ∷ diversion ∷ duration ∷ []

-- bytes 0 to 15: these, and when it ends
abbrev pub front_bytes : ℕ → Kept → Location → List ℕ
front_bytes groups k l = (mark_bytes groups k.service ++ head_bytes l k.report.head k.report.diversion k.report.duration) ++ four_bytes k.expiry.0

-- bytes 30 to 41: zero, country, country and LTN of the location, the set of classes
abbrev pub tail_bytes : Service → Location → ℕ → List ℕ
tail_bytes s l set = (0 ∷ s.country ∷ l.country ∷ l.ltn ∷ []) ++ eight_bytes set

-- the location of the report that is kept
abbrev pub location_kept : Kept → Location
location_kept k = location_of k.service k.report

-- the record: the fewest groups for the items, the report's location, the items zero filled, and the set of classes
unfoldable pub record_of : Kept → (set : ℕ) → List ℕ
record_of k set =
    front_bytes (groups_of k.report) k (location_kept k) ++ (bytes_of (listed k.report.items) ++ tail_bytes k.service (location_kept k) set)

-- a service, a set of classes and an expiry that a record may have
abbrev pub marks_fit : Kept → (set : ℕ) → Bool
marks_fit k set = service_fits k.service && (set_fits set && leb 1 k.expiry.0)

-- with a report that a writer takes, a record is made of them
unfoldable pub can_make : Kept → (set : ℕ) → Bool
can_make k set = marks_fit k set && report_fits k.report

-- in bytes that are one record's; other bytes are refused (10), then what no record is made of (9)
unfoldable pub making_in : List ℕ → Kept → (set : ℕ) → Result (Unit {0}) Refusal
making_in out k set = must (is_record out) Malformed (must (can_make k set) Unfit (Ok tt))

-- and a refusal leaves the bytes
unfoldable pub bytes_made : List ℕ → Kept → (set : ℕ) → List ℕ
bytes_made out k set = cond (is_record out && can_make k set) (record_of k set) out
