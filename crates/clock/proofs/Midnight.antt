-- The end of a life of 0 is the first midnight of the service after the minute, 1 to 1,440 minutes ahead.
use Prim.Native.Nat.{ℕ, ◌+◌, ◌%◌, ◌<◌, ◌≤◌}
use native.Mathlib.Omega.{arith}
use mathlib.Core.Path.{◌≡◌}
use lib.IntN.{ℤ}
use borrow.Author.Tests.{eq-eqb, ne_eqb}
use Rattle.clock.specs.Time.{day, local_of, to_midnight, expiry_of}

pub ahead : (local : ℕ) → (1 ≤ to_midnight local) × (to_midnight local ≤ day)
unfolding to_midnight
ahead local = omega arith

pub is_midnight : (local : ℕ) → (local + to_midnight local) % day ≡ 0
unfolding to_midnight
is_midnight local = omega arith

pub is_next : (local k : ℕ) → 1 ≤ k → k < to_midnight local → (local + k) % day ≡ 0 → ⊥
unfolding to_midnight
is_next local k a b e = omega arith

-- the two kinds of life
module _ (minute : ℕ) (lto : ℤ) (life : ℕ) where
  pub until_midnight : life ≡ 0 → expiry_of minute lto life ≡ minute + to_midnight (local_of minute lto)
  unfolding expiry_of
  until_midnight e = rw (eq-eqb life 0 e)

  pub after_life : (life ≡ 0 → ⊥) → expiry_of minute lto life ≡ minute + life
  unfolding expiry_of
  after_life e = rw (ne_eqb life 0 e)
