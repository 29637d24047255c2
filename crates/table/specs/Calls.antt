-- The calls on a table, with one catalogue: a report is taken, or records expire (documents 01, "The message table", and 02, R-6).
use Rattle.std.specs.Prelude.{ℕ, Bool, false, not, List, ℤ}
use Rattle.record.specs.Layout.{free_record}
use Rattle.checks.specs.declared.Arrival.{Arrival}
use Rattle.checks.specs.Events.{is_ordinary, kind_for}
use Rattle.table.specs.declared.Step.{Step}
use Rattle.table.specs.declared.WhenFull.{WhenFull}
use Rattle.table.specs.Expire.{expire_step, expire_table}
use Rattle.table.specs.Take.{matches_of, record_for, keeps, take_step, take_table}

-- what is taken, with its offset, the lives that are lent and the choice for a full table; or the minute of expiry alone
pub data Call : Type 0 where
  taking : Arrival → ℤ → List ℕ → WhenFull → Call
  expiring : ℕ → Call

-- the clock and the answer, and the table afterwards, by the catalogue, the table and the clock at entry
unfoldable pub step_of : (catalogue t : List ℕ) → ℕ → Call → Step
step_of catalogue t last (taking a lto lives full) = take_step t catalogue lives last a lto full
step_of catalogue t last (expiring minute) = expire_step t last minute

unfoldable pub table_after : (catalogue t : List ℕ) → ℕ → Call → List ℕ
table_after catalogue t last (taking a lto lives full) = take_table t catalogue lives last a lto full
table_after catalogue t last (expiring minute) = expire_table t last minute

-- its minute
abbrev pub minute_of : Call → ℕ
minute_of (taking a lto lives full) = a.minute.0
minute_of (expiring minute) = minute

-- the records that match: of expiry alone, none
abbrev pub match_of : List ℕ → Call → List ℕ → Bool
match_of catalogue (taking a lto lives full) = matches_of catalogue a
match_of catalogue (expiring minute) = λ r. false

-- whether it stores a record, and which
abbrev pub stores_of : List ℕ → Call → Bool
stores_of catalogue (taking a lto lives full) = is_ordinary (kind_for catalogue a.report)
stores_of catalogue (expiring minute) = false

abbrev pub made_of : List ℕ → Call → List ℕ
made_of catalogue (taking a lto lives full) = record_for catalogue lives a lto
made_of catalogue (expiring minute) = free_record

-- whether a record may be dropped for it
abbrev pub drops_of : Call → Bool
drops_of (taking a lto lives full) = not (keeps full)
drops_of (expiring minute) = false
