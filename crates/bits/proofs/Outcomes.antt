-- The laws of outcomes.
use Prim.Native.Nat.{ℕ}
use native.Mathlib.Omega.{arith}
use mathlib.Core.Path.{◌≡◌, refl, ap}
use Rattle.std.specs.Prelude.{Result, Ok, Err, is_ok}
use Rattle.bits.specs.Outcome.{mapped, refused_as}

-- a refusal gives no value
pub refused-gives-none : {A N : Type 0} {a : A} {n : N} → Err n ≡ Ok a → ⊥
refused-gives-none {A} {N} {a} {n} e = let z : ◌≡◌ {A = ℕ} 0 1 = cc in omega arith

-- a function of what a refusal carries leaves the value
pub refused_as_gives : {A N M : Type 0} (f : N → M) (x : Result A N) (a : A) → refused_as f x ≡ Ok a → x ≡ Ok a
refused_as_gives f (Ok b) a e = let same : b ≡ a = cc in ap Ok same
refused_as_gives f (Err n) a e = absurd (refused-gives-none e)

pub refused_as_given : {A N M : Type 0} (f : N → M) (x : Result A N) → is_ok (refused_as f x) ≡ is_ok x
refused_as_given f (Ok a) = refl
refused_as_given f (Err n) = refl

-- a function of the value leaves whether there is one
pub mapped-given : {A B N : Type 0} (f : A → B) (x : Result A N) → is_ok (mapped f x) ≡ is_ok x
mapped-given f (Ok a) = refl
mapped-given f (Err n) = refl
