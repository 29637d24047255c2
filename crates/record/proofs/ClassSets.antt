-- Two sets of classes have a class in common if the classes share one.
use Prim.Native.Nat.{ℕ, ◌+◌, ◌*◌, ◌/◌, ◌%◌, ◌^◌, ◌<◌, min, max}
use native.Mathlib.Omega.{arith}
use mathlib.Core.Path.{◌≡◌, refl, sym, ap, ap₂, ◌∙◌}
use mathlib.Core.Bool.{Bool, true, false, not, ◌&&◌, ◌||◌}
use mathlib.Core.List.{List, [], ◌∷◌}
use lib.Dec.{eqb, ltb}
use lib.Arith.{bin_ind}
use lib.Pow.{pow_pos, pow-lt}
use lib.Bits.{bit_and, bit_or, and_step, or_step, and_zero_l, and_zero_r, and_comm, and_self, and_le_l, and_le_r, and_shifted, or_add_and}
use borrow.Author.Tests.{eqb-true, eqb-false, eq-eqb, ne_eqb, ltb-true, ltb-false}
use Rattle.bits.proofs.Choice.{and_left}
use Rattle.record.specs.Classes.{any_of, share, set_of, meet, set_fits}

-- `and` over `or`, a bit at a time
or_half : (a b : ℕ) → bit_or a b / 2 ≡ bit_or (a / 2) (b / 2)
or_half a b = omega (arith, or_step a b)

or_odd : (a b : ℕ) → bit_or a b % 2 ≡ max (a % 2) (b % 2)
or_odd a b = omega (arith, or_step a b)

and_half : (a b : ℕ) → bit_and a b / 2 ≡ bit_and (a / 2) (b / 2)
and_half a b = omega (arith, and_step a b)

and_odd : (a b : ℕ) → bit_and a b % 2 ≡ min (a % 2) (b % 2)
and_odd a b = omega (arith, and_step a b)

min-max : (x y z : ℕ) → min (max x y) z ≡ max (min x z) (min y z)
min-max x y z = omega arith

distributes : (n a b : ℕ) → bit_and (bit_or a b) n ≡ bit_or (bit_and a n) (bit_and b n)
distributes =
    bin_ind (λ (n : ℕ). (a b : ℕ) → bit_and (bit_or a b) n ≡ bit_or (bit_and a n) (bit_and b n)) (λ a b. and_zero_r (bit_or a b) ∙ sym (ap₂ bit_or (and_zero_r a) (and_zero_r b)))
    (λ n half a b.
    and_step (bit_or a b) n
    ∙ ap₂ (λ (x y : ℕ). bit_and x (n / 2) * 2 + min y (n % 2)) (or_half a b) (or_odd a b)
    ∙ ap₂ (λ (x y : ℕ). x * 2 + y) (half (a / 2) (b / 2)) (min-max (a % 2) (b % 2) (n % 2))
    ∙ sym (or_step (bit_and a n) (bit_and b n) ∙ (λ i. bit_or (and_half a n i) (and_half b n i) * 2 + max (and_odd a n i) (and_odd b n i))))

or_zero : (a b : ℕ) → eqb (bit_or a b) 0 ≡ eqb a 0 && eqb b 0
or_zero a b = by_tests (eqb a 0) refl (eqb b 0) refl
  where
    by_tests : (x : Bool) → eqb a 0 ≡ x → (y : Bool) → eqb b 0 ≡ y → eqb (bit_or a b) 0 ≡ eqb a 0 && eqb b 0
    by_tests true e true f = eq-eqb (bit_or a b) 0 (omega (arith, or_add_and a b, eqb-true a 0 e, eqb-true b 0 f)) ∙ sym (ap₂ (λ (x y : Bool). x && y) e f)
    by_tests true e false f = ne_eqb (bit_or a b) 0 (λ z. eqb-false b 0 f (omega (arith, or_add_and a b, and_le_l a b))) ∙ sym (ap₂ (λ (x y : Bool). x && y) e f)
    by_tests false e y f = ne_eqb (bit_or a b) 0 (λ z. eqb-false a 0 e (omega (arith, or_add_and a b, and_le_r a b))) ∙ sym (ap₂ (λ (x y : Bool). x && y) e f)

-- two classes, as sets
single-zero : (c d : ℕ) → eqb (bit_and (2 ^ c) (2 ^ d)) 0 ≡ not (eqb c d)
single-zero c d = by_tests (eqb c d) refl (ltb c d) refl
  where
    apart : (x y : ℕ) → x < y → bit_and (2 ^ y) (2 ^ x) ≡ 0
    apart x y h = let e : 2 ^ y ≡ 1 * 2 ^ y = omega arith in ap (λ (n : ℕ). bit_and n (2 ^ x)) e ∙ and_shifted 1 y (2 ^ x) (pow-lt h)

    by_tests : (x : Bool) → eqb c d ≡ x → (y : Bool) → ltb c d ≡ y → eqb (bit_and (2 ^ c) (2 ^ d)) 0 ≡ not (eqb c d)
    by_tests true e y f =
        ne_eqb (bit_and (2 ^ c) (2 ^ d)) 0 (λ z. let same : bit_and (2 ^ c) (2 ^ d) ≡ 2 ^ c = ap (λ (n : ℕ). bit_and (2 ^ c) (2 ^ n)) (sym (eqb-true c d e)) ∙ and_self (2 ^ c) in omega (arith, pow_pos c))
        ∙ sym (ap not e)
    by_tests false e true f = eq-eqb (bit_and (2 ^ c) (2 ^ d)) 0 (and_comm (2 ^ c) (2 ^ d) ∙ apart c d (ltb-true c d f)) ∙ sym (ap not e)
    by_tests false e false f = eq-eqb (bit_and (2 ^ c) (2 ^ d)) 0 (apart d c (let n = eqb-false c d e in omega (arith, ltb-false c d f))) ∙ sym (ap not e)

-- a set with one class more meets another if it did or if the class does
more-meets : (s c n : ℕ) → meet (bit_or s (2 ^ c)) n ≡ meet (2 ^ c) n || meet s n
more-meets s c n =
    ap (λ (x : ℕ). not (eqb x 0)) (distributes n s (2 ^ c))
    ∙ ap not (or_zero (bit_and s n) (bit_and (2 ^ c) n))
    ∙ either (eqb (bit_and s n) 0) (eqb (bit_and (2 ^ c) n) 0)
  where
    either : (x y : Bool) → not (x && y) ≡ not y || not x
    either true true = refl
    either true false = refl
    either false true = refl
    either false false = refl

one_meets : (c : ℕ) (ys : List ℕ) → meet (2 ^ c) (set_of ys) ≡ any_of (eqb c) ys
unfolding set_of any_of
one_meets c [] = ap (λ (x : ℕ). not (eqb x 0)) (and_zero_r (2 ^ c))
one_meets c (y ∷ ys) =
    ap (λ (x : ℕ). not (eqb x 0)) (and_comm (2 ^ c) (bit_or (set_of ys) (2 ^ y)))
    ∙ more-meets (set_of ys) y (2 ^ c)
    ∙ ap₂ (λ (a b : Bool). a || b) (ap (λ (x : ℕ). not (eqb x 0)) (and_comm (2 ^ y) (2 ^ c)) ∙ ap not (single-zero c y) ∙ twice (eqb c y)) (ap (λ (x : ℕ). not (eqb x 0)) (and_comm (set_of ys) (2 ^ c)) ∙ one_meets c ys)
  where
    twice : (b : Bool) → not (not b) ≡ b
    twice true = refl
    twice false = refl

pub sets_share : (xs ys : List ℕ) → meet (set_of xs) (set_of ys) ≡ share xs ys
unfolding set_of share any_of
sets_share [] ys = ap (λ (x : ℕ). not (eqb x 0)) (and_zero_l (set_of ys))
sets_share (x ∷ xs) ys = more-meets (set_of xs) x (set_of ys) ∙ ap₂ (λ (a b : Bool). a || b) (one_meets x ys) (sets_share xs ys)

-- a set that a record may have shares its classes with itself
pub set_shared : (set : ℕ) → set_fits set ≡ true → meet set set ≡ true
set_shared set h = ap (λ (n : ℕ). not (eqb n 0)) (and_self set) ∙ and_left (not (eqb set 0)) (eqb (set % 2) 0) h
