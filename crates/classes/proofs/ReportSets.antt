-- The set of a report's classes is one that a record may have.
use Prim.Native.Nat.{ℕ, zero, suc, ◌%◌, ◌^◌, ◌≤◌, ◌<◌}
use native.Mathlib.Omega.{arith}
use mathlib.Core.Path.{◌≡◌, refl, sym, ap, ap₂, subst, ◌∙◌}
use mathlib.Core.Bool.{Bool, true, false, not, ◌&&◌}
use mathlib.Core.List.{List, [], ◌∷◌}
use lib.Pow.{pow_pos, pow-lt}
use lib.Bits.{bit_or, or_lt, or_step, or_add_and, and_le_l}
use borrow.Author.Tests.{eq-eqb, ne_eqb}
use Rattle.bits.proofs.Choice.{chosen, passed_over}
use Rattle.content.specs.Stored.{listed}
use Rattle.report.specs.declared.Report.{Report}
use Rattle.record.specs.Classes.{set_of, set_fits}
use Rattle.lent.specs.Catalogue.{entry_at, class_of, has_class, catalogue_fits}
use Rattle.lent.proofs.Lents.{class-some, catalogue_entry}
use Rattle.classes.specs.Events.{additional_events, events_of}
use Rattle.classes.specs.Classes.{event_classes, classes_of}

-- what holds of no class, and of one more event that has a class, holds of the classes of all events
by_event : (P : List ℕ → Type 0) (c : List ℕ) → P [] → ((e : ℕ) (ks : List ℕ) → has_class (entry_at c e) ≡ true → P ks → P (class_of (entry_at c e) ∷ ks)) → (es : List ℕ) → P (event_classes c es)
unfolding event_classes
by_event P c none more [] = none
by_event P c none more (e ∷ es) = by_class (has_class (entry_at c e)) refl (by_event P c none more es)
  where
    by_class : (b : Bool) → has_class (entry_at c e) ≡ b → P (event_classes c es) → P (event_classes c (e ∷ es))
    by_class true h rest = subst P (sym (chosen _ _ _ h)) (more e (event_classes c es) h rest)
    by_class false h rest = subst P (sym (passed_over _ _ _ h)) rest

-- 64 bits hold it
events_small : (c es : List ℕ) → set_of (event_classes c es) < 2 ^ 64
unfolding set_of
events_small c = by_event (λ ks. set_of ks < 2 ^ 64) c (omega arith) (λ e ks h small. or_lt 64 (set_of ks) (2 ^ class_of (entry_at c e)) small (pow-lt {j = 64} (omega arith)))

pub set_small : (c : List ℕ) (x : Report) → set_of (classes_of c x) < 2 ^ 64
unfolding classes_of
set_small c x = events_small c (events_of x)

-- class 0 is not in it
double : (n : ℕ) → 1 ≤ n → 2 ^ n % 2 ≡ 0
double zero h = absurd (omega arith)
double (suc n) h = omega arith

set_even : (c es : List ℕ) → catalogue_fits c ≡ true → set_of (event_classes c es) % 2 ≡ 0
unfolding set_of
set_even c es fits =
    by_event (λ ks. set_of ks % 2 ≡ 0) c refl (λ e ks h even.
    let k = class_of (entry_at c e) in omega (arith, or_step (set_of ks) (2 ^ k), double k (class-some (entry_at c e) (catalogue_entry c e fits) h))) es

-- a report whose first event has a class
pub set-fits : (c : List ℕ) (x : Report) → catalogue_fits c ≡ true → has_class (entry_at c x.head.event) ≡ true → set_fits (set_of (classes_of c x)) ≡ true
unfolding classes_of events_of event_classes set_of
set-fits c x fits h =
    let k = class_of (entry_at c x.head.event) in
    let ks = event_classes c (additional_events (listed x.items)) in
    let first : event_classes c (events_of x) ≡ k ∷ ks = chosen _ _ _ h in
    let some : set_of (event_classes c (events_of x)) ≡ 0 → ⊥ = λ z. let none : bit_or (set_of ks) (2 ^ k) ≡ 0 = sym (ap set_of first) ∙ z in omega (arith, or_add_and (set_of ks) (2 ^ k), and_le_l (set_of ks) (2 ^ k), pow_pos k) in
    ap₂ (λ (a b : Bool). not a && b) (ne_eqb _ 0 some) (eq-eqb _ 0 (set_even c (events_of x) fits))
