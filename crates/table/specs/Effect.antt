-- Demand 2 of the table: what a call on it does (documents 01, "The message table", and 02, R-6).
use Rattle.std.specs.Prelude.{ℕ, ◌≤◌, ◌<◌, ◌≡◌, Bool, true, false, not, List, map, length, set, Ok, Err}
use Rattle.std.specs.List.{position_or_len}
use Rattle.refusal.specs.declared.Refusal.{Refusal}
use Rattle.record.specs.Layout.{is_free}
use Rattle.record.specs.Gone.{expired, either, only_second, freed_if}
use Rattle.lent.specs.Records.{records, all_of}
use Rattle.table.specs.declared.Step.{Step}
use Rattle.table.specs.declared.Answer.TheVariants.{Freed, Stored, Dropped}
use Rattle.table.specs.Records.{count_if, soonest}
use Rattle.table.specs.Steps.{step}
use Rattle.table.specs.Calls.{Call, minute_of, match_of, stores_of, made_of, drops_of}

-- the records that are used
abbrev pub used : List ℕ → Bool
used r = not (is_free r)

abbrev pub used_in : List ℕ → ℕ
used_in t = count_if used (records t)

-- the records with exactly those freed that have expired or match
abbrev pub freed_by : List ℕ → Call → List (List ℕ) → List (List ℕ)
freed_by catalogue call rs = map (freed_if (either (expired (minute_of call)) (match_of catalogue call))) rs

-- how many have expired, and how many match that have not
abbrev pub expired_by : Call → List (List ℕ) → ℕ
expired_by call rs = count_if (expired (minute_of call)) rs

abbrev pub matched_by : List ℕ → Call → List (List ℕ) → ℕ
matched_by catalogue call rs = count_if (only_second (expired (minute_of call)) (match_of catalogue call)) rs

-- a call on a table t, the clock at `last`: the clock and the answer, and the table afterwards
pub data Effect (catalogue t : List ℕ) (last : ℕ) (call : Call) : Step → List ℕ → Type 0 where
  -- refused: the table and the clock are as they were
  refuses : (refusal : Refusal) → Effect catalogue t last call (step last (Err refusal)) t
  -- exactly the records are freed that have expired or match, and they are counted
  frees : {after : List ℕ} → stores_of catalogue call ≡ false → last ≤ minute_of call → records after ≡ freed_by catalogue call (records t)
      → Effect catalogue t last call (step (minute_of call) (Ok (Freed (expired_by call (records t)) (matched_by catalogue call (records t))))) after
  -- and the report's record is stored in the lowest-numbered place that is free then; every other record is as it was
  stores : {after : List ℕ} (place : ℕ) → stores_of catalogue call ≡ true → last ≤ minute_of call
      → place ≡ position_or_len is_free (freed_by catalogue call (records t)) → place < length (records t)
      → records after ≡ set (freed_by catalogue call (records t)) place (made_of catalogue call)
      → Effect catalogue t last call (step (minute_of call) (Ok (Stored (expired_by call (records t)) (matched_by catalogue call (records t)) place))) after
  -- or, where all records are used, and none has expired and none matches: the one that ends soonest, the lowest-numbered on a tie, is dropped,
  -- and the report's record is stored in its place; every other record is as it was
  drops : {after : List ℕ} (place : ℕ) → stores_of catalogue call ≡ true → drops_of call ≡ true → last ≤ minute_of call
      → all_of used (records t) ≡ true → expired_by call (records t) ≡ 0 → matched_by catalogue call (records t) ≡ 0
      → place ≡ soonest (records t) → place < length (records t)
      → records after ≡ set (records t) place (made_of catalogue call)
      → Effect catalogue t last call (step (minute_of call) (Ok (Dropped place))) after
