-- A data unit goes to C as it is, and what C has of a reading says all that the reading says: no refusal is 0, and each has its own number.
use Prim.Native.Nat.{ℕ}
use mathlib.Core.Path.{◌≡◌, refl}
use mathlib.Core.Bool.{cond}
use lib.Dec.{eqb}
use Rattle.std.specs.Prelude.{Result, Ok, Err}
use Rattle.refusal.specs.declared.Refusal.{Refusal}
use Rattle.refusal.specs.declared.Refusal.TheVariants.{WrongLength, OtherKind, Reserved, WrongCheckWord, OutOfTurn, Continuity7, CutShort, Label15, Unfit, Malformed, UnknownEvent, ForeignLocation, WrongMinute, NoRoom, SmallBuffer}
use Rattle.drm.specs.declared.Reading.{Reading}
use Rattle.c_answers.specs.declared.carriers.UnitReading.{UnitReading}
use Rattle.c_answers.specs.Carriers.{unit_reading}

-- the refusal of a number
abbrev named : ℕ → Refusal
named n =
    cond (eqb n 1) WrongLength (cond (eqb n 2) OtherKind (cond (eqb n 3) Reserved (cond (eqb n 4) WrongCheckWord (cond (eqb n 5) OutOfTurn
    (cond (eqb n 6) Continuity7 (cond (eqb n 7) CutShort (cond (eqb n 8) Label15 (cond (eqb n 9) Unfit (cond (eqb n 10) Malformed
    (cond (eqb n 11) UnknownEvent (cond (eqb n 12) ForeignLocation (cond (eqb n 13) WrongMinute (cond (eqb n 14) NoRoom SmallBuffer)))))))))))))

abbrev reading_from : UnitReading → Result Reading Refusal
reading_from r = cond (eqb r.refusal 0) (Ok (record { unit = r.unit; count = r.count })) (Err (named r.refusal))

pub unit_back : (reading : Reading) → reading_from (unit_reading (Ok reading)) ≡ Ok reading
unit_back reading = refl

pub refusal_back : (refusal : Refusal) → reading_from (unit_reading (Err refusal)) ≡ Err refusal
refusal_back WrongLength = refl
refusal_back OtherKind = refl
refusal_back Reserved = refl
refusal_back WrongCheckWord = refl
refusal_back OutOfTurn = refl
refusal_back Continuity7 = refl
refusal_back CutShort = refl
refusal_back Label15 = refl
refusal_back Unfit = refl
refusal_back Malformed = refl
refusal_back UnknownEvent = refl
refusal_back ForeignLocation = refl
refusal_back WrongMinute = refl
refusal_back NoRoom = refl
refusal_back SmallBuffer = refl
