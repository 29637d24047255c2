-- What each answer of a call on the table says, in the numbers of document 01.
use Rattle.std.specs.Prelude.{ℕ, Result, Ok, Err}
use Rattle.refusal.specs.declared.Refusal.{Refusal}
use Rattle.table.specs.declared.Answer.{Answer}
use Rattle.table.specs.declared.Answer.TheVariants.{Freed, Stored, Dropped}

-- how many records were freed as expired, and as matching; how many were dropped and stored, and in which place
abbrev pub expired_of : Result Answer Refusal → ℕ
expired_of (Ok (Freed expired matched)) = expired
expired_of (Ok (Stored expired matched place)) = expired
expired_of (Ok (Dropped place)) = 0
expired_of (Err refusal) = 0

abbrev pub matched_of : Result Answer Refusal → ℕ
matched_of (Ok (Freed expired matched)) = matched
matched_of (Ok (Stored expired matched place)) = matched
matched_of (Ok (Dropped place)) = 0
matched_of (Err refusal) = 0

abbrev pub dropped_of : Result Answer Refusal → ℕ
dropped_of (Ok (Freed expired matched)) = 0
dropped_of (Ok (Stored expired matched place)) = 0
dropped_of (Ok (Dropped place)) = 1
dropped_of (Err refusal) = 0

abbrev pub stored_of : Result Answer Refusal → ℕ
stored_of (Ok (Freed expired matched)) = 0
stored_of (Ok (Stored expired matched place)) = 1
stored_of (Ok (Dropped place)) = 1
stored_of (Err refusal) = 0

abbrev pub place_of : Result Answer Refusal → ℕ
place_of (Ok (Freed expired matched)) = 0
place_of (Ok (Stored expired matched place)) = place
place_of (Ok (Dropped place)) = place
place_of (Err refusal) = 0
