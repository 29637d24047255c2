-- What the ranges of a record's bytes say.
use Prim.Native.Nat.{ℕ, zero, suc, ◌+◌, ◌^◌, ◌≤◌, ◌<◌}
use mathlib.Core.Path.{◌≡◌, refl, sym, ap, ap₂, subst, ◌∙◌}
use mathlib.Core.Bool.{Bool, true, false, ◌&&◌, ◌||◌, and_assoc, and-true}
use mathlib.Core.List.{List, [], ◌∷◌}
use native.Mathlib.Omega.{arith}
use lib.ListN.{take, drop, get_or}
use lib.Seq.{get_or-drop}
use lib.Dec.{leb, eqb}
use borrow.Author.Tests.{leb-true, lt-ltb, eqb-true, eqb-false, ne_eqb}
use Rattle.bits.specs.Bits.{all_zero}
use Rattle.bits.proofs.Choice.{and_left, and_right}
use Rattle.record.specs.Layout.{byte_at, groups_in}
use Rattle.record.specs.WellFormed.{within, ranges_fit, marked, complete, spare_in, rest_fits, well_formed}

-- a test holds of every number below n
unfoldable pub all_below : (ℕ → Bool) → ℕ → Bool
all_below p zero = true
all_below p (suc n) = all_below p n && p n

below : {j n : ℕ} → (j ≡ n → ⊥) → j < suc n → j < n
below {j} {n} ne h = omega arith

pub all_below_at : (p : ℕ → Bool) (n j : ℕ) → all_below p n ≡ true → j < n → p j ≡ true
unfolding all_below
all_below_at p zero j h k = absurd (omega arith)
all_below_at p (suc n) j h k = by_test (eqb j n) refl (all_below_at p n j (and_left (all_below p n) (p n) h))
  where
    by_test : (b : Bool) → eqb j n ≡ b → (j < n → p j ≡ true) → p j ≡ true
    by_test true e before = subst (λ (i : ℕ). p i ≡ true) (sym (eqb-true j n e)) (and_right (all_below p n) (p n) h)
    by_test false e before = before (below (eqb-false j n e) k)

pub all_below_fails : (p : ℕ → Bool) (n j : ℕ) → j < n → p j ≡ false → all_below p n ≡ false
all_below_fails p n j h e = by_test (all_below p n) refl
  where
    by_test : (b : Bool) → all_below p n ≡ b → all_below p n ≡ false
    by_test true f = f ∙ sym (all_below_at p n j f h) ∙ e
    by_test false f = f

pub all_below_same : (p q : ℕ → Bool) (n : ℕ) → ((k : ℕ) → k < n → p k ≡ q k) → all_below p n ≡ all_below q n
unfolding all_below
all_below_same p q zero h = refl
all_below_same p q (suc n) h = ap₂ (λ (a b : Bool). a && b) (all_below_same p q n (λ k l. h k (omega arith))) (h n (omega arith))

pub all_below_true : (p : ℕ → Bool) (n : ℕ) → ((k : ℕ) → k < n → p k ≡ true) → all_below p n ≡ true
unfolding all_below
all_below_true p zero h = refl
all_below_true p (suc n) h = ap₂ (λ (a b : Bool). a && b) (all_below_true p n (λ k l. h k (omega arith))) (h n (omega arith))

-- from the first one on
pub all_below_first : (p : ℕ → Bool) (n : ℕ) → all_below p (suc n) ≡ p 0 && all_below (λ k. p (suc k)) n
unfolding all_below
all_below_first p zero = sym (and-true (p 0))
all_below_first p (suc n) = ap (λ (b : Bool). b && p (suc n)) (all_below_first p n) ∙ and_assoc (p 0) (all_below (λ k. p (suc k)) n) (p (suc n))

-- one byte more that is in its range
pub within-next : (w x : ℕ) (ws xs : List ℕ) → x < 2 ^ w → within ws xs ≡ true → within (w ∷ ws) (x ∷ xs) ≡ true
unfolding within
within-next w x ws xs h e = ap₂ (λ (a b : Bool). a && b) (lt-ltb x (2 ^ w) h) e

-- a part of bytes
front_lt : (n : ℕ) (l : List ℕ) (i : ℕ) → ((j : ℕ) → get_or l j 0 < 256) → get_or (take n l) i 0 < 256
front_lt zero l i h = omega arith
front_lt (suc n) [] i h = omega arith
front_lt (suc n) (x ∷ l) zero h = h 0
front_lt (suc n) (x ∷ l) (suc i) h = front_lt n l i (λ j. h (suc j))

pub take_lt : (n a : ℕ) (r : List ℕ) (i : ℕ) → ((j : ℕ) → get_or r j 0 < 256) → get_or (take n (drop a r)) i 0 < 256
take_lt n a r i h = front_lt n (drop a r) i (λ j. subst (λ (m : ℕ). m < 256) (sym (get_or-drop a r j 0)) (h (a + j)))

-- a used record has one to five groups
pub groups_range : (r : List ℕ) → well_formed r ≡ true → (byte_at r 0 ≡ 0 → ⊥) → (1 ≤ groups_in r) × (groups_in r ≤ 5)
unfolding well_formed rest_fits complete
groups_range r h used =
    let groups = leb 1 (groups_in r) && leb (groups_in r) 5 in
    let rest : (groups && marked r) && all_zero (spare_in r) ≡ true = sym (ap (λ (b : Bool). b || (groups && marked r) && all_zero (spare_in r)) (ne_eqb (byte_at r 0) 0 used)) ∙ and_right (ranges_fit r) (rest_fits r) h in
    let both = and_left groups (marked r) (and_left (groups && marked r) (all_zero (spare_in r)) rest) in
    (leb-true 1 (groups_in r) (and_left (leb 1 (groups_in r)) (leb (groups_in r) 5) both), leb-true (groups_in r) 5 (and_right (leb 1 (groups_in r)) (leb (groups_in r) 5) both))
