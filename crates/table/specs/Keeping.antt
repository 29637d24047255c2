-- The take as it was before a record could be dropped, to which the choice "keep" is held (document 02, R-6).
use Rattle.std.specs.Prelude.{ℕ, Bool, cond, not, ◌&&◌, List, ℤ, unwrap_or, Result, Ok, is_ok}
use Rattle.std.specs.Result.{result_and}
use Rattle.refusal.specs.Checks.{must}
use Rattle.refusal.specs.declared.Refusal.{Refusal}
use Rattle.refusal.specs.declared.Refusal.TheVariants.{NoRoom}
use Rattle.checks.specs.declared.Arrival.{Arrival}
use Rattle.checks.specs.Events.{is_ordinary, kind_for}
use Rattle.checks.specs.Checks.{check_answer}
use Rattle.table.specs.declared.Step.{Step}
use Rattle.table.specs.declared.Answer.{Answer}
use Rattle.table.specs.declared.Answer.TheVariants.{Freed, Stored}
use Rattle.table.specs.Records.{stored}
use Rattle.table.specs.Steps.{stepped, expired_in, after_matching, matched_in, free_in, no_room}
use Rattle.table.specs.Take.{matches_of, record_for}

-- the place of the free record, where there is one
abbrev pub room_in : ℕ → (List ℕ → Bool) → List ℕ → ℕ
room_in minute match t = unwrap_or (free_in minute match t) 0

-- the answer: the checks refuse, and then want of room for an ordinary event; a report is stored in a free record
unfoldable pub keeping_answer : (t catalogue lives : List ℕ) → ℕ → Arrival → ℤ → Result Answer Refusal
keeping_answer t catalogue lives last a lto =
    let minute = a.minute.0 in
    let match = matches_of catalogue a in
    let ordinary = is_ordinary (kind_for catalogue a.report) in
    result_and (check_answer t catalogue lives last a lto)
    (must (not (ordinary && no_room minute match t)) NoRoom
    (Ok (cond ordinary (Stored (expired_in minute t) (matched_in minute match t) (room_in minute match t))
    (Freed (expired_in minute t) (matched_in minute match t)))))

-- the state with the answer, and the table afterwards
abbrev pub keeping_step : (t catalogue lives : List ℕ) → ℕ → Arrival → ℤ → Step
keeping_step t catalogue lives last a lto = stepped last a.minute.0 (keeping_answer t catalogue lives last a lto)

unfoldable pub keeping_table : (t catalogue lives : List ℕ) → ℕ → Arrival → ℤ → List ℕ
keeping_table t catalogue lives last a lto =
    let minute = a.minute.0 in
    let match = matches_of catalogue a in
    cond (is_ok (keeping_answer t catalogue lives last a lto))
    (cond (is_ordinary (kind_for catalogue a.report)) (stored (after_matching minute match t) (room_in minute match t) (record_for catalogue lives a lto))
    (after_matching minute match t))
    t
