-- Where content breaks, in the numbers of include/alertc.h (document 02, R-8).
use Rattle.std.specs.Prelude.{ℕ, Result, Ok, Err}
use Rattle.report.specs.declared.Unreadable.{Unreadable}
use Rattle.report.specs.declared.Unreadable.TheVariants.{Refused, Broken}

-- what is told where there is no place; that no place has this number is `told_apart` in proofs/Places.antt
abbrev pub not_broken : ℕ
not_broken = 255

abbrev pub place_told : Unreadable → ℕ
place_told (Refused refusal) = not_broken
place_told (Broken refusal place) = place

-- what is told of an answer
abbrev pub broken_in : {A : Type 0} → Result A Unreadable → ℕ
broken_in (Ok a) = not_broken
broken_in (Err unreadable) = place_told unreadable
