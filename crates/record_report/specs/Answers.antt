-- What the answer of a call on a record says, in the numbers of document 01.
use Rattle.std.specs.Prelude.{ℕ, Option, None, Some, Result, Ok, Err}
use Rattle.report.specs.Answers as report
use Rattle.report.specs.declared.Unreadable.{Unreadable}
use Rattle.record_report.specs.declared.Kept.{Kept}

-- the refusal; 0 where there is none
abbrev pub number_of : Result (Option Kept) Unreadable → ℕ
number_of (Ok k) = 0
number_of (Err x) = report.number_of x

-- 1 where the record is in use and read, else 0
abbrev pub used_of : Result (Option Kept) Unreadable → ℕ
used_of (Ok None) = 0
used_of (Ok (Some k)) = 1
used_of (Err x) = 0
