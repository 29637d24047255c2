-- The choice "keep" is the take as it was; under the default nothing is refused for want of room.
use Prim.Native.Nat.{ℕ}
use mathlib.Core.Path.{◌≡◌, refl, sym, ap, ◌∙◌}
use mathlib.Core.Bool.{Bool, true, false, cond, not, ◌&&◌}
use mathlib.Core.List.{List}
use lib.IntN.{ℤ}
use Rattle.std.specs.Prelude.{⊤, Option, Some, None, is_none, unwrap_or, Result, Ok, Err, is_ok}
use Rattle.std.specs.Result.{result_and}
use Rattle.refusal.specs.Checks.{must}
use Rattle.refusal.specs.declared.Refusal.{Refusal}
use Rattle.refusal.specs.declared.Refusal.TheVariants.{Unfit, Malformed, UnknownEvent, ForeignLocation, WrongMinute, NoRoom}
use Rattle.location.specs.Flt.{is_flt}
use Rattle.record.specs.Locations.{location_of}
use Rattle.lent.specs.Records.{records}
use Rattle.lent.specs.Lent.{lent_fit}
use Rattle.checks.specs.declared.Arrival.{Arrival}
use Rattle.checks.specs.Events.{is_known, is_ordinary, kind_for}
use Rattle.checks.specs.Checks.{asked_fit, minute_unfit, check_answer}
use Rattle.table.specs.declared.WhenFull.TheVariants.{Drop, Keep}
use Rattle.table.specs.declared.Answer.{Answer}
use Rattle.table.specs.declared.Answer.TheVariants.{Freed, Stored, Dropped}
use Rattle.table.specs.Records.{soonest, stored}
use Rattle.table.specs.Steps.{stepped, expired_in, after_matching, matched_in, free_in, no_room, place_in, after_storing}
use Rattle.table.specs.Take.{matches_of, record_for, storing_answer, taken_answer, taken_table, take_answer, take_step, take_table}
use Rattle.table.specs.Keeping.{keeping_answer, keeping_step, keeping_table}

module _ (t c l : List ℕ) (last : ℕ) (a : Arrival) (lto : ℤ) where
  abbrev minute : ℕ
  minute = a.minute.0

  abbrev match : List ℕ → Bool
  match = matches_of c a

  abbrev ordinary : Bool
  ordinary = is_ordinary (kind_for c a.report)

  -- the record that is dropped where none is free, and what the two takes answer and leave, by the free record
  abbrev other : ℕ
  other = soonest (records (after_matching minute match t))

  abbrev freed : Answer
  freed = Freed (expired_in minute t) (matched_in minute match t)

  abbrev taken : Result ⊤ Refusal → Bool → Option ℕ → Result Answer Refusal
  taken r o x =
      result_and r (must (not (o && (is_none x && true))) NoRoom (Ok (cond o (cond (is_none x) (Dropped (unwrap_or x other)) (Stored (expired_in minute t) (matched_in minute match t) (unwrap_or x other))) freed)))

  abbrev kept : Result ⊤ Refusal → Bool → Option ℕ → Result Answer Refusal
  kept r o x = result_and r (must (not (o && is_none x)) NoRoom (Ok (cond o (Stored (expired_in minute t) (matched_in minute match t) (unwrap_or x 0)) freed)))

  same-answer : (r : Result ⊤ Refusal) (o : Bool) (x : Option ℕ) → taken r o x ≡ kept r o x
  same-answer (Err e) o x = refl
  same-answer (Ok u) false x = refl
  same-answer (Ok u) true None = refl
  same-answer (Ok u) true (Some k) = refl

  abbrev table_taken : Result ⊤ Refusal → Bool → Option ℕ → List ℕ
  table_taken r o x = cond (is_ok (taken r o x)) (cond o (stored (after_matching minute match t) (unwrap_or x other) (record_for c l a lto)) (after_matching minute match t)) t

  abbrev table_kept : Result ⊤ Refusal → Bool → Option ℕ → List ℕ
  table_kept r o x = cond (is_ok (kept r o x)) (cond o (stored (after_matching minute match t) (unwrap_or x 0) (record_for c l a lto)) (after_matching minute match t)) t

  same-table : (r : Result ⊤ Refusal) (o : Bool) (x : Option ℕ) → table_taken r o x ≡ table_kept r o x
  same-table (Err e) o x = refl
  same-table (Ok u) false x = refl
  same-table (Ok u) true None = refl
  same-table (Ok u) true (Some k) = refl

  -- under "keep", the take as it was
  keep-answer : take_answer t c l last a lto Keep ≡ keeping_answer t c l last a lto
  unfolding take_answer taken_answer storing_answer place_in keeping_answer
  keep-answer = same-answer (check_answer t c l last a lto) ordinary (free_in minute match t)

  pub keep_is : (take_step t c l last a lto Keep ≡ keeping_step t c l last a lto) × (take_table t c l last a lto Keep ≡ keeping_table t c l last a lto)
  unfolding take_answer take_table taken_answer taken_table storing_answer place_in after_storing keeping_answer keeping_table
  keep_is = (ap (stepped last minute) keep-answer, same-table (check_answer t c l last a lto) ordinary (free_in minute match t))

  -- under the default the checks alone refuse
  pub drop-answer : take_answer t c l last a lto Drop ≡ result_and (check_answer t c l last a lto) (Ok (taken_answer (kind_for c a.report) minute match t))
  unfolding take_answer
  drop-answer = by_room (check_answer t c l last a lto) ordinary (no_room minute match t) (taken_answer (kind_for c a.report) minute match t)
    where
      by_room : (r : Result ⊤ Refusal) (o f : Bool) (x : Answer) → result_and r (must (not (o && (f && false))) NoRoom (Ok x)) ≡ result_and r (Ok x)
      by_room r true true x = refl
      by_room r true false x = refl
      by_room r false f x = refl

  drop-refusal : (e : Refusal) → take_answer t c l last a lto Drop ≡ Err e → check_answer t c l last a lto ≡ Err e
  drop-refusal e h = by_check (check_answer t c l last a lto) (taken_answer (kind_for c a.report) minute match t) (sym drop-answer ∙ h)
    where
      by_check : (r : Result ⊤ Refusal) (x : Answer) → result_and r (Ok x) ≡ Err e → r ≡ Err e
      by_check (Err d) x h = cc
      by_check (Ok u) x h = absurd (cc)

  -- and none of them for want of room
  pub drop_never_14 : take_answer t c l last a lto Drop ≡ Err NoRoom → ⊥
  unfolding check_answer
  drop_never_14 e = by_tests (lent_fit t c l) (asked_fit a.report a.service lto) (minute_unfit last minute) (is_flt (location_of a.service a.report).code) (is_known (kind_for c a.report)) (drop-refusal NoRoom e)
    where
      by_tests : (lent asked unfit flt known : Bool)
          → ◌≡◌ {A = Result ⊤ Refusal} (must lent Malformed (must asked Unfit (must (not unfit) WrongMinute (must (not flt) ForeignLocation (must known UnknownEvent (Ok tt)))))) (Err NoRoom) → ⊥
      by_tests false asked unfit flt known h = cc
      by_tests true false unfit flt known h = cc
      by_tests true true true flt known h = cc
      by_tests true true false true known h = cc
      by_tests true true false false false h = cc
      by_tests true true false false true h = cc
