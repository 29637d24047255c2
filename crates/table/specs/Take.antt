-- Taking a report (documents 01, "The message table", and 02, R-4 to R-6; ISO 14819-1, clauses 6.4 and 6.5).
use Rattle.std.specs.Prelude.{ℕ, Bool, true, false, cond, not, ◌&&◌, List, ℤ, Result, Ok, is_ok}
use Rattle.std.specs.Result.{result_and}
use Rattle.refusal.specs.Checks.{must}
use Rattle.refusal.specs.declared.Refusal.{Refusal}
use Rattle.refusal.specs.declared.Refusal.TheVariants.{NoRoom}
use Rattle.record.specs.Matching.{matching}
use Rattle.record_report.specs.declared.Kept.{Kept}
use Rattle.record_report.specs.Made.{record_of}
use Rattle.lent.specs.declared.catalogue.Kind.{Kind}
use Rattle.lent.specs.Catalogue.{classed}
use Rattle.classes.specs.Classes.{set_for}
use Rattle.classes.specs.Keys.{key_of}
use Rattle.checks.specs.declared.Arrival.{Arrival}
use Rattle.checks.specs.Events.{is_ordinary, kind_for, expiry_for}
use Rattle.checks.specs.Checks.{check_answer}
use Rattle.table.specs.declared.Step.{Step}
use Rattle.table.specs.declared.WhenFull.{WhenFull}
use Rattle.table.specs.declared.WhenFull.TheVariants.{Drop, Keep}
use Rattle.table.specs.declared.Answer.{Answer}
use Rattle.table.specs.declared.Answer.TheVariants.{Freed, Stored, Dropped}
use Rattle.table.specs.Steps.{stepped, expired_in, after_matching, matched_in, place_in, no_room, after_storing}

-- the records that a test holds of, for an ordinary or a cancelling event
unfoldable pub matches : Kind → (List ℕ → Bool) → List ℕ → Bool
matches kind match r = classed kind && match r

-- those that match the report
abbrev pub matches_of : List ℕ → Arrival → List ℕ → Bool
matches_of catalogue a = matches (kind_for catalogue a.report) (matching (key_of catalogue a.service a.report))

-- what is to be kept of it, which ends by its life
abbrev pub kept_of : (catalogue lives : List ℕ) → Arrival → ℤ → Kept
kept_of catalogue lives a lto = record { report = a.report; service = a.service; expiry = record { 0 = expiry_for catalogue lives a lto } }

-- the record to be stored, with the set of its classes
abbrev pub record_for : (catalogue lives : List ℕ) → Arrival → ℤ → List ℕ
record_for catalogue lives a lto = record_of (kept_of catalogue lives a lto) (set_for catalogue a.report)

-- whether a full table keeps its records
abbrev pub keeps : WhenFull → Bool
keeps Drop = false
keeps Keep = true

-- what a call answers that stores the report: where there was no room, a record was dropped, and none had expired or matched
unfoldable pub storing_answer : ℕ → (List ℕ → Bool) → List ℕ → Answer
storing_answer minute match t =
    cond (no_room minute match t) (Dropped (place_in minute match t)) (Stored (expired_in minute t) (matched_in minute match t) (place_in minute match t))

-- what an accepted call answers, by the kind of event, and leaves: steps 1 and 2, and for an ordinary one step 3
unfoldable pub taken_answer : Kind → (minute : ℕ) → (List ℕ → Bool) → List ℕ → Answer
taken_answer kind minute match t = cond (is_ordinary kind) (storing_answer minute match t) (Freed (expired_in minute t) (matched_in minute match t))

unfoldable pub taken_table : Kind → (minute : ℕ) → (List ℕ → Bool) → (r t : List ℕ) → List ℕ
taken_table kind minute match r t = cond (is_ordinary kind) (after_storing minute match r t) (after_matching minute match t)

-- the answer: the checks refuse, and then, where records are kept, want of room for an ordinary event
unfoldable pub take_answer : (t catalogue lives : List ℕ) → ℕ → Arrival → ℤ → WhenFull → Result Answer Refusal
take_answer t catalogue lives last a lto full =
    let kind = kind_for catalogue a.report in
    let match = matches_of catalogue a in
    result_and (check_answer t catalogue lives last a lto)
    (must (not (is_ordinary kind && (no_room a.minute.0 match t && keeps full))) NoRoom
    (Ok (taken_answer kind a.minute.0 match t)))

-- the state with the answer, and the table afterwards: a refusal changes nothing
abbrev pub take_step : (t catalogue lives : List ℕ) → ℕ → Arrival → ℤ → WhenFull → Step
take_step t catalogue lives last a lto full = stepped last a.minute.0 (take_answer t catalogue lives last a lto full)

unfoldable pub take_table : (t catalogue lives : List ℕ) → ℕ → Arrival → ℤ → WhenFull → List ℕ
take_table t catalogue lives last a lto full =
    cond (is_ok (take_answer t catalogue lives last a lto full))
    (taken_table (kind_for catalogue a.report) a.minute.0 (matches_of catalogue a) (record_for catalogue lives a lto) t)
    t
