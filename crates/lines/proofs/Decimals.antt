-- The law by which `decimal` is read, and how many digits a number has.
use Prim.Native.Nat.{ℕ, zero, suc, ◌*◌, ◌/◌, ◌%◌, ◌^◌, ◌≤◌, ◌<◌}
use native.Mathlib.Nat.{pow-suc}
use native.Mathlib.Omega.{arith}
use mathlib.Core.Path.{◌≡◌, refl, sym, ap, ◌∙◌}
use mathlib.Core.Bool.{Bool, true, false, cond}
use mathlib.Core.List.{List, [], ◌∷◌, ◌++◌}
use lib.ListN.{length, length-append}
use lib.Dec.{ltb}
use borrow.Author.Tests.{lt-ltb, le-ltb, ltb-true, ltb-false}
use Rattle.lines.specs.Decimal.{digit, spelled, decimal}

-- any bound that is not below the number gives the same digits
enough : (f g n : ℕ) → n ≤ f → n ≤ g → spelled f n ≡ spelled g n
unfolding spelled
enough zero zero n h k = refl
enough zero (suc g) n h k = sym (ap (λ (b : Bool). cond b (digit n ∷ []) (spelled g (n / 10) ++ digit (n % 10) ∷ [])) (lt-ltb n 10 (omega arith)))
enough (suc f) zero n h k = ap (λ (b : Bool). cond b (digit n ∷ []) (spelled f (n / 10) ++ digit (n % 10) ∷ [])) (lt-ltb n 10 (omega arith))
enough (suc f) (suc g) n h k = ap (λ (l : List ℕ). cond (ltb n 10) (digit n ∷ []) (l ++ digit (n % 10) ∷ [])) (enough f g (n / 10) (omega arith) (omega arith))

-- a number below ten is its digit, and any other is the number of its tens and then the last digit
pub decimal_law : (n : ℕ) → decimal n ≡ cond (ltb n 10) (digit n ∷ []) (decimal (n / 10) ++ digit (n % 10) ∷ [])
unfolding decimal spelled
decimal_law zero = refl
decimal_law (suc n) = ap (λ (l : List ℕ). cond (ltb (suc n) 10) (digit (suc n) ∷ []) (l ++ digit (suc n % 10) ∷ [])) (enough n (suc n / 10) (suc n / 10) (omega arith) (omega arith))

pub decimal_digit : (n : ℕ) → n < 10 → decimal n ≡ digit n ∷ []
decimal_digit n h = decimal_law n ∙ ap (λ (b : Bool). cond b (digit n ∷ []) (decimal (n / 10) ++ digit (n % 10) ∷ [])) (lt-ltb n 10 h)

pub decimal-more : (n : ℕ) → 10 ≤ n → decimal n ≡ decimal (n / 10) ++ digit (n % 10) ∷ []
decimal-more n h = decimal_law n ∙ ap (λ (b : Bool). cond b (digit n ∷ []) (decimal (n / 10) ++ digit (n % 10) ∷ [])) (le-ltb n 10 h)

-- one digit more than the number of tens, where that is more than none
one_more : (k n : ℕ) → (10 ≤ n → length (decimal (n / 10)) ≤ suc k) → (b : Bool) → ltb n 10 ≡ b → length (decimal n) ≤ suc (suc k)
one_more k n h true e = omega (arith, ap length (decimal_digit n (ltb-true n 10 e)))
one_more k n h false e =
    let ten : 10 ≤ n = ltb-false n 10 e in
    omega (arith, h ten, ap length (decimal-more n ten), length-append (decimal (n / 10)) (digit (n % 10) ∷ []))

-- a number below a power of ten has no more digits than that power
pub decimal-length : (k n : ℕ) → n < 10 ^ suc k → length (decimal n) ≤ suc k
decimal-length zero n h = omega (arith, ap length (decimal_digit n h))
decimal-length (suc k) n h =
    let tens : 10 ^ suc (suc k) ≡ 10 ^ suc k * 10 = pow-suc 10 (suc k) in
    one_more k n (λ ten. decimal-length k (n / 10) (omega arith)) (ltb n 10) refl
