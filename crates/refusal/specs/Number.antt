-- The numbers of document 01, "Numbers returned when refused".
use Rattle.std.specs.Prelude.{ℕ, Result, Ok, Err}
use Rattle.refusal.specs.declared.Refusal.{Refusal}
use Rattle.refusal.specs.declared.Refusal.TheVariants.{WrongLength, OtherKind, Reserved, WrongCheckWord, OutOfTurn, Continuity7, CutShort, Label15, Unfit, Malformed, UnknownEvent, ForeignLocation, WrongMinute, NoRoom, SmallBuffer}

abbrev pub number : Refusal → ℕ
number WrongLength = 1
number OtherKind = 2
number Reserved = 3
number WrongCheckWord = 4
number OutOfTurn = 5
number Continuity7 = 6
number CutShort = 7
number Label15 = 8
number Unfit = 9
number Malformed = 10
number UnknownEvent = 11
number ForeignLocation = 12
number WrongMinute = 13
number NoRoom = 14
number SmallBuffer = 15

-- the number that an answer tells, 0 where there is no refusal
abbrev pub refusal_in : {A : Type 0} → Result A Refusal → ℕ
refusal_in (Ok a) = 0
refusal_in (Err refusal) = number refusal

-- how many words or bytes an answer tells of, 0 on a refusal
abbrev pub count_in : Result ℕ Refusal → ℕ
count_in (Ok n) = n
count_in (Err refusal) = 0
