-- The repeat rule's runs go to C and back unchanged, either way round.
use Prim.Native.Nat.{ℕ, zero, suc}
use mathlib.Core.Path.{◌≡◌, refl, sym, ap}
use mathlib.Core.Bool.{Bool, true, false, ◌||◌}
use native.Mathlib.Omega.{arith}
use lib.Dec.{eqb}
use borrow.Author.Tests.{eqb-true, ne_eqb}
use Rattle.std.specs.Prelude.{Ok}
use Rattle.refusal.specs.declared.Refusal.TheVariants.{Unfit}
use Rattle.refusal.proofs.Checks.{passed}
use Rattle.rds.specs.declared.Run.{Run}
use Rattle.rds.specs.declared.Run.TheVariants.{Empty, One, More}
use Rattle.rds.specs.Repeat as calls
use Rattle.c_values.specs.declared.runs.PlainRun.{PlainRun}
use Rattle.c_values.specs.Runs.{run_fits, run_by, run_from, run_of}

-- every run
pub run_back : (r : Run) → run_by (run_of r) ≡ r
run_back Empty = refl
run_back (One w) = refl
run_back (More w) = refl

-- none that calls give is refused
pub run_taken : (r : Run) → calls.run_fits r ≡ true → run_from (run_of r) ≡ Ok r
unfolding calls.run_fits
run_taken Empty h = refl
run_taken (One w) h = rw h
run_taken (More w) h = rw h

or_none : (b : Bool) → b || false ≡ true → b ≡ true
or_none true e = refl
or_none false e = e

abbrev plain : ℕ → ℕ → PlainRun
plain word count = record { word = word; count = count }

by_count : (word count : ℕ) → run_fits (plain word count) ≡ true → run_of (run_by (plain word count)) ≡ plain word count
by_count word zero h = ap (λ (w : ℕ). plain w 0) (sym (eqb-true word 0 (or_none (eqb word 0) h)))
by_count word (suc zero) h = refl
by_count word (suc (suc zero)) h = refl
by_count word (suc (suc (suc n))) h =
    let c = suc (suc (suc n)) in
    let e : ◌≡◌ {A = Bool} false true = simp (ne_eqb c 0 (λ e. omega arith), ne_eqb c 1 (λ e. omega arith), ne_eqb c 2 (λ e. omega arith)) at h in
    cc

-- and every run of C's that fits
pub plain_run_back : (p : PlainRun) (r : Run) → run_from p ≡ Ok r → run_of r ≡ p
plain_run_back p r h =
    let got = passed (run_fits p) Unfit (Ok (run_by p)) r h in
    let made : run_by p ≡ r = let e = got.1 in cc in
    rw (← made) (by_count p.word p.count got.0)
