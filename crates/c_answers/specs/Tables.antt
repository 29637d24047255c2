-- What the calls on the message table take and answer (include/alertc.h): on a refusal its number, and 0 elsewhere; where content breaks the
-- place.
use Rattle.std.specs.Prelude.{ℕ, cond, List, ℤ, leb, eqb, Option, None, Some, Result, Ok, Err}
use Rattle.refusal.specs.declared.Refusal.{Refusal}
use Rattle.refusal.specs.declared.Refusal.TheVariants.{Unfit, Malformed}
use Rattle.refusal.specs.Number.{refusal_in, count_in}
use Rattle.clock.specs.declared.Utc.{Utc}
use Rattle.clock.specs.Answers.{minute_of}
use Rattle.record.specs.declared.Service.{Service}
use Rattle.report.specs.declared.Unreadable.{Unreadable}
use Rattle.report.specs.Report.{blank}
use Rattle.record_report.specs.declared.Kept.{Kept}
use Rattle.record_report.specs.Answers as kept
use Rattle.lent.specs.Lent.{lent_fit}
use Rattle.table.specs.declared.WhenFull.{WhenFull}
use Rattle.table.specs.declared.WhenFull.TheVariants.{Drop, Keep}
use Rattle.table.specs.declared.Answer.{Answer}
use Rattle.table.specs.declared.Step.{Step}
use Rattle.checks.specs.declared.Arrival.{Arrival}
use Rattle.table.specs.Answers as table·
use Rattle.table.specs.Steps.{step}
use Rattle.table.specs.Take.{take_step, take_table}
use Rattle.c_values.specs.declared.reports.PlainReport.{PlainReport}
use Rattle.c_values.specs.Reports.{report_from, plain_of}
use Rattle.c_answers.specs.Refusals.{broken_in}
use Rattle.c_answers.specs.declared.tables.TableAnswer.{TableAnswer}
use Rattle.c_answers.specs.declared.tables.Renewal.{Renewal}
use Rattle.c_answers.specs.declared.tables.RecordReading.{RecordReading}
use Rattle.c_answers.specs.declared.tables.ExpiryAnswer.{ExpiryAnswer}

-- what arrives
abbrev pub arrival_of : PlainReport → Service → ℕ → Arrival
arrival_of p service minute = record { report = report_from p; service = service; minute = record { 0 = minute } }

-- the choice for a full table: 0 drops, 1 keeps
unfoldable pub choice_of : ℕ → WhenFull
choice_of number = cond (eqb number 1) Keep Drop

-- a number that is no choice is unfit as a report, a service or an offset is (9), after what is lent (10)
abbrev pub no_choice : (t catalogue lives : List ℕ) → Refusal
no_choice t catalogue lives = cond (lent_fit t catalogue lives) Unfit Malformed

-- the state and the answer of a take, and the table afterwards
unfoldable pub chosen_step : (t catalogue lives : List ℕ) → ℕ → Arrival → ℤ → ℕ → Step
chosen_step t catalogue lives last a lto number =
    cond (leb number 1) (take_step t catalogue lives last a lto (choice_of number)) (step last (Err (no_choice t catalogue lives)))

unfoldable pub chosen_table : (t catalogue lives : List ℕ) → ℕ → Arrival → ℤ → ℕ → List ℕ
chosen_table t catalogue lives last a lto number = cond (leb number 1) (take_table t catalogue lives last a lto (choice_of number)) t

-- what a call did to the table
abbrev pub table_answer : Result Answer Refusal → TableAnswer
table_answer a =
    record { expired = table·.expired_of a; matched = table·.matched_of a; place = table·.place_of a; stored = table·.stored_of a; dropped = table·.dropped_of a; refusal = refusal_in a }

-- what a renewal says
abbrev pub renewal_told : Result ℕ Refusal → Renewal
renewal_told r = record { used = count_in r; refusal = refusal_in r }

-- the report, the service and the expiry where a record is in use; else the blank report, no service and minute 0
abbrev pub report_in : Result (Option Kept) Unreadable → PlainReport
report_in (Ok None) = plain_of blank
report_in (Ok (Some k)) = plain_of k.report
report_in (Err unreadable) = plain_of blank

abbrev pub service_in : Result (Option Kept) Unreadable → Service
service_in (Ok None) = record { country = 0; ltn = 0; sid = 0 }
service_in (Ok (Some k)) = k.service
service_in (Err unreadable) = record { country = 0; ltn = 0; sid = 0 }

abbrev pub expiry_in : Result (Option Kept) Unreadable → ℕ
expiry_in (Ok None) = 0
expiry_in (Ok (Some k)) = k.expiry.0
expiry_in (Err unreadable) = 0

-- these, and whether the record is in use
abbrev pub record_reading : Result (Option Kept) Unreadable → RecordReading
record_reading r =
    record { report = report_in r; service = service_in r; expiry = expiry_in r; used = kept.used_of r; refusal = kept.number_of r; broken = broken_in r }

-- when a report ends
abbrev pub expiry_told : Result Utc Refusal → ExpiryAnswer
expiry_told r = record { minute = minute_of r; refusal = refusal_in r }
