-- What one word more does to a run.
use Prim.Native.Nat.{ℕ}
use mathlib.Core.Path.{◌≡◌}
use borrow.Author.Tests.{eq-eqb, ne_eqb}
use Rattle.rds.specs.declared.Run.TheVariants.{One, More}
use Rattle.std.specs.Prelude.{Ok, Some, None}
use Rattle.rds.specs.Repeat.{next_run, answer_to, begun, heard}

-- the second member of a run is valid
pub heard-second : (v w : ℕ) → v ≡ w → heard (One v) w ≡ record { run = More w; answer = Ok (Some w) }
unfolding next_run answer_to
heard-second v w e = rw (eq-eqb v w e)

-- later members say nothing
pub heard-later : (v w : ℕ) → v ≡ w → heard (More v) w ≡ record { run = More w; answer = Ok None }
unfolding next_run answer_to
heard-later v w e = rw (eq-eqb v w e)

-- another word begins a run
pub other_than_one : (v w : ℕ) → (v ≡ w → ⊥) → heard (One v) w ≡ begun w
unfolding next_run answer_to
other_than_one v w h = rw (ne_eqb v w h)

pub other_than_more : (v w : ℕ) → (v ≡ w → ⊥) → heard (More v) w ≡ begun w
unfolding next_run answer_to
other_than_more v w h = rw (ne_eqb v w h)
