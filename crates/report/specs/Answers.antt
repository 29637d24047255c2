-- The refusal behind each reason why there is no report, in the numbers of document 01.
use Rattle.std.specs.Prelude.{ℕ, Result, Ok, Err}
use Rattle.refusal.specs.Number.{number}
use Rattle.refusal.specs.declared.Refusal.{Refusal}
use Rattle.report.specs.declared.Unreadable.{Unreadable}
use Rattle.report.specs.declared.Unreadable.TheVariants.{Refused, Broken}

-- the refusal, with or without a place
abbrev pub refusal_of : Unreadable → Refusal
refusal_of (Refused refusal) = refusal
refusal_of (Broken refusal place) = refusal

-- its number
abbrev pub number_of : Unreadable → ℕ
number_of unreadable = number (refusal_of unreadable)

-- the refusal's number, 0 where something was read
abbrev pub refusal_in : {A : Type 0} → Result A Unreadable → ℕ
refusal_in (Ok a) = 0
refusal_in (Err unreadable) = number_of unreadable
