-- The two ways of a test and of a choice, and both parts of a test that holds.
use Prim.Native.Nat.{ℕ, ◌≤◌}
use mathlib.Core.Path.{◌≡◌, refl, ap}
use mathlib.Core.Bool.{Bool, true, false, ◌&&◌, cond}
use lib.Dec.{leb}
use borrow.Author.Tests.{leb-true}

-- a test is true or false
pub either : {P : Type 0} (b : Bool) → (b ≡ true → P) → (b ≡ false → P) → P
either true t f = t refl
either false t f = f refl

pub and_left : (a b : Bool) → a && b ≡ true → a ≡ true
and_left true b e = refl
and_left false b e = e

pub and_right : (a b : Bool) → a && b ≡ true → b ≡ true
and_right true b e = e
and_right false b e = cc

-- a number that was found within bounds
pub between : (a n b : ℕ) → leb a n && leb n b ≡ true → (a ≤ n) × (n ≤ b)
between a n b t = (leb-true a n (and_left (leb a n) (leb n b) t), leb-true n b (and_right (leb a n) (leb n b) t))

pub chosen : {A : Type 0} (t : Bool) (a b : A) → t ≡ true → cond t a b ≡ a
chosen t a b e = ap (λ (x : Bool). cond x a b) e

pub passed_over : {A : Type 0} (t : Bool) (a b : A) → t ≡ false → cond t a b ≡ b
passed_over t a b e = ap (λ (x : Bool). cond x a b) e
