-- The three steps of a call on the table (documents 01, "The message table", and 02, R-6; ISO 14819-1, clauses 6.4 and 6.5). Step 2 is for
-- any test of what matches: for a call that matches nothing, it never holds.
use Rattle.std.specs.Prelude.{ℕ, Bool, cond, List, Option, is_none, unwrap_or, Result, is_ok}
use Rattle.refusal.specs.declared.Refusal.{Refusal}
use Rattle.record.specs.Gone.{expired}
use Rattle.lent.specs.Records.{records}
use Rattle.table.specs.declared.Step.{Step}
use Rattle.table.specs.declared.Answer.{Answer}
use Rattle.table.specs.Records.{free_where, count_where, lowest_free, soonest, stored}

-- the state after a call, and its answer
abbrev pub step : ℕ → Result Answer Refusal → Step
step last answer = record { last = record { 0 = last }; answer = answer }

-- that of a call at a minute: a refusal leaves the state
abbrev pub stepped : (last minute : ℕ) → Result Answer Refusal → Step
stepped last minute answer = step (cond (is_ok answer) minute last) answer

-- step 1: the records that have expired are freed, so many
abbrev pub after_expiry : ℕ → List ℕ → List ℕ
after_expiry minute t = free_where (expired minute) t

abbrev pub expired_in : ℕ → List ℕ → ℕ
expired_in minute t = count_where (expired minute) t

-- step 2: of those that remain the ones that match are freed, so many
unfoldable pub after_matching : ℕ → (List ℕ → Bool) → List ℕ → List ℕ
after_matching minute match t = free_where match (after_expiry minute t)

unfoldable pub matched_in : ℕ → (List ℕ → Bool) → List ℕ → ℕ
matched_in minute match t = count_where match (after_expiry minute t)

-- step 3: the lowest-numbered record that is free then, if there is one; else there is no room
unfoldable pub free_in : ℕ → (List ℕ → Bool) → List ℕ → Option ℕ
free_in minute match t = lowest_free (after_matching minute match t)

abbrev pub no_room : ℕ → (List ℕ → Bool) → List ℕ → Bool
no_room minute match t = is_none (free_in minute match t)

-- the place for a report is that of this record; where there is no room, that of the record that ends soonest, which is dropped
unfoldable pub place_in : ℕ → (List ℕ → Bool) → List ℕ → ℕ
place_in minute match t = unwrap_or (free_in minute match t) (soonest (records (after_matching minute match t)))

unfoldable pub after_storing : ℕ → (List ℕ → Bool) → List ℕ → List ℕ → List ℕ
after_storing minute match r t = stored (after_matching minute match t) (place_in minute match t) r
