-- What a call on the table refuses, but for want of room (documents 01, "The message table", and 02, R-1).
use Rattle.std.specs.Prelude.{ℕ, Bool, not, ◌&&◌, ◌||◌, List, ℤ, ltb, ⊤, Result, Ok}
use Rattle.refusal.specs.Checks.{must}
use Rattle.refusal.specs.declared.Refusal.{Refusal}
use Rattle.refusal.specs.declared.Refusal.TheVariants.{Unfit, Malformed, UnknownEvent, ForeignLocation, WrongMinute}
use Rattle.location.specs.Flt.{is_flt}
use Rattle.report.specs.declared.Report.{Report}
use Rattle.report.specs.Fits.{report_fits}
use Rattle.clock.specs.Time.{largest, offset_fits}
use Rattle.record.specs.declared.Service.{Service}
use Rattle.record.specs.Services.{service_fits}
use Rattle.record.specs.Locations.{location_of}
use Rattle.lent.specs.Lent.{lent_fit}
use Rattle.lent.specs.declared.catalogue.Kind.{Kind}
use Rattle.checks.specs.declared.Arrival.{Arrival}
use Rattle.checks.specs.Events.{is_known, kind_for}

-- the report is one that a writer takes, the service and the offset are in their ranges
unfoldable pub asked_fit : Report → Service → ℤ → Bool
asked_fit r s lto = report_fits r && (service_fits s && offset_fits lto)

-- a minute below the last one or too large
abbrev pub minute_unfit : ℕ → ℕ → Bool
minute_unfit last minute = ltb minute last || ltb largest minute

-- the last of them: the minute (13), the code of the location (12), the kind of the event (11)
abbrev pub later_answer : (last minute code : ℕ) → Kind → Result ⊤ Refusal
later_answer last minute code kind =
    must (not (minute_unfit last minute)) WrongMinute (must (not (is_flt code)) ForeignLocation (must (is_known kind) UnknownEvent (Ok tt)))

-- the first refusal but that for want of room. An FLT code is one on a single-group report, or the real location of an INTER-ROAD one
unfoldable pub check_answer : (t catalogue lives : List ℕ) → ℕ → Arrival → ℤ → Result ⊤ Refusal
check_answer t catalogue lives last a lto =
    must (lent_fit t catalogue lives) Malformed
    (must (asked_fit a.report a.service lto) Unfit (later_answer last a.minute.0 (location_of a.service a.report).code (kind_for catalogue a.report)))
