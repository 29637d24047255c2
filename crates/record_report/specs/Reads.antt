-- What a record says (documents 01, "The message table", and 02, R-1 and R-8): a place is counted in the record's own content, where no real
-- location stands.
use Rattle.std.specs.Prelude.{ℕ, cond, ◌&&◌, List, take, eqb, Option, None, Some, Result, Ok, Err}
use Rattle.bits.specs.Fields.{flat}
use Rattle.bits.specs.Outcome.{mapped}
use Rattle.refusal.specs.declared.Refusal.TheVariants.{Malformed}
use Rattle.report.specs.declared.Report.{Report}
use Rattle.report.specs.declared.Unreadable.{Unreadable}
use Rattle.report.specs.declared.Unreadable.TheVariants.{Refused}
use Rattle.report.specs.Report.{single_report}
use Rattle.report.specs.Read.{read_items}
use Rattle.record.specs.Layout.{is_record, is_free, groups_in, head_in, real_in, duration_in, diversion_in, content_in, service_in, expiry_in}
use Rattle.record.specs.Gone.{one_record}
use Rattle.record.specs.WellFormed.{groups_fit, content_bits, well_formed}
use Rattle.record_report.specs.declared.Kept.{Kept}

-- a report with a real location
abbrev pub with_real : ℕ → Report → Report
with_real real r = record { form = r.form; head = r.head; real = real; diversion = r.diversion; duration = r.duration; items = r.items }

-- the message of a used record: a single-group report, or the head with the items of the content; each with the real location
unfoldable pub message_in : List ℕ → Result Report Unreadable
message_in r =
    cond (eqb (groups_in r) 1) (Ok (with_real (real_in r) (single_report (duration_in r) (diversion_in r) (head_in r))))
    (read_items (head_in r) (real_in r) (content_bits r) (take (content_bits r) (flat 8 (content_in r))))

-- that of any bytes: those that are not one record's, or have not one to five groups, are refused (10)
unfoldable pub message_of : List ℕ → Result Report Unreadable
message_of r = cond (one_record groups_fit r) (message_in r) (Err (Refused Malformed))

-- what a record keeps beside its classes, with the report of its message
abbrev pub kept_in : List ℕ → Report → Kept
kept_in r x = record { report = x; service = service_in r; expiry = record { 0 = expiry_in r } }

-- nothing of a free record
unfoldable pub reading_in : List ℕ → Result (Option Kept) Unreadable
reading_in r = cond (is_free r) (Ok None) (mapped (λ x. Some (kept_in r x)) (message_in r))

-- of any bytes: those that are not one well-formed record are refused (10)
unfoldable pub reading_of : List ℕ → Result (Option Kept) Unreadable
reading_of r = cond (is_record r && well_formed r) (reading_in r) (Err (Refused Malformed))
