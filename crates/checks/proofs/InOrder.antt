-- The order of the checks, in the numbers of document 01.
use Prim.Native.Nat.{ℕ}
use mathlib.Core.Path.{◌≡◌, refl, ◌∙◌}
use mathlib.Core.Bool.{Bool, true, false, cond}
use mathlib.Core.List.{List}
use lib.IntN.{ℤ}
use Rattle.std.specs.Prelude.{not, ⊤, Ok}
use Rattle.refusal.specs.Number.{refusal_in}
use Rattle.refusal.specs.Checks.{must}
use Rattle.refusal.specs.declared.Refusal.TheVariants.{Unfit, Malformed, UnknownEvent, ForeignLocation, WrongMinute}
use Rattle.location.specs.Flt.{is_flt}
use Rattle.record.specs.Locations.{location_of}
use Rattle.lent.specs.Lent.{lent_fit}
use Rattle.lent.specs.declared.catalogue.Kind.{Kind}
use Rattle.checks.specs.declared.Arrival.{Arrival}
use Rattle.checks.specs.Events.{is_known, kind_for}
use Rattle.checks.specs.Checks.{asked_fit, minute_unfit, later_answer, check_answer}

in_numbers : (lent asked unfit flt known : Bool)
    → refusal_in {A = ⊤} (must lent Malformed (must asked Unfit (must (not unfit) WrongMinute (must (not flt) ForeignLocation (must known UnknownEvent (Ok tt))))))
    ≡ cond lent (cond asked (cond unfit 13 (cond flt 12 (cond known 0 11))) 9) 10
in_numbers false asked unfit flt known = refl
in_numbers true false unfit flt known = refl
in_numbers true true true flt known = refl
in_numbers true true false true known = refl
in_numbers true true false false false = refl
in_numbers true true false false true = refl

-- the minute (13), the location (12), the event (11)
pub later_in_order : (last minute code : ℕ) (kind : Kind) → refusal_in (later_answer last minute code kind)
    ≡ cond (minute_unfit last minute) 13 (cond (is_flt code) 12 (cond (is_known kind) 0 11))
later_in_order last minute code kind = in_numbers true true (minute_unfit last minute) (is_flt code) (is_known kind)

-- what is lent (10), what is asked (9), the minute (13), the location (12), the event (11)
pub checks_in_order : (t c l : List ℕ) (last : ℕ) (a : Arrival) (lto : ℤ) → refusal_in (check_answer t c l last a lto)
    ≡ cond (lent_fit t c l) (cond (asked_fit a.report a.service lto) (cond (minute_unfit last a.minute.0) 13
    (cond (is_flt (location_of a.service a.report).code) 12 (cond (is_known (kind_for c a.report)) 0 11))) 9) 10
unfolding check_answer
checks_in_order t c l last a lto =
    in_numbers (lent_fit t c l) (asked_fit a.report a.service lto) (minute_unfit last a.minute.0) (is_flt (location_of a.service a.report).code) (is_known (kind_for c a.report))

-- the last three, where nothing before them is refused
pub checked_in_order : (t c l : List ℕ) (last : ℕ) (a : Arrival) (lto : ℤ) → lent_fit t c l ≡ true → asked_fit a.report a.service lto ≡ true
    → refusal_in (check_answer t c l last a lto)
    ≡ cond (minute_unfit last a.minute.0) 13 (cond (is_flt (location_of a.service a.report).code) 12 (cond (is_known (kind_for c a.report)) 0 11))
checked_in_order t c l last a lto e f = checks_in_order t c l last a lto ∙ by_tests (lent_fit t c l) (asked_fit a.report a.service lto) _ e f
  where
    by_tests : (p q : Bool) (x : ℕ) → p ≡ true → q ≡ true → cond p (cond q x 9) 10 ≡ x
    by_tests true true x e f = refl
    by_tests true false x e f = absurd (cc)
    by_tests false q x e f = absurd (cc)
