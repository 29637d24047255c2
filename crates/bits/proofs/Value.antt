-- The laws of `bits` and `val`, each over the width.
use Prim.Native.Nat.{ℕ, zero, suc, ◌+◌, ◌*◌, ◌/◌, ◌%◌, ◌^◌, ◌<◌, ◌≤◌}
use native.Mathlib.Nat.{lt_of_lt_of_le, zero-mod, mod-lt, mod-eq_of_lt, mod-mod, mod-one, zero-mul, zero-add, add-mul, mul_assoc, add_assoc, pow-succ'}
use native.Mathlib.Numerals.{one-add}
use native.Mathlib.Omega.{arith}
use mathlib.Core.Path.{◌≡◌, refl, sym, ap, ap₂, subst, ◌∙◌}
use mathlib.Core.Bool.{Bool, true, false, ◌&&◌}
use mathlib.Core.List.{List, [], ◌∷◌, ◌++◌}
use lib.ListN.{length, take, drop, length-append, length-take}
use lib.Seq.{take_at, drop_at}
use lib.Pow.{pow_pos, pow-add, pow_mono, high, low, mod-pow-add}
use lib.Arith.{digits_lt}
use borrow.Author.Tests.{ne_eqb}
use lib.Dec.{eqb, lit<}
use Rattle.bits.specs.Bits.{bit, num, bits, val, all_zero}
use Rattle.bits.specs.Overlay.{stretch}

num_lt : (b : Bool) → num b < 2
unfolding num
num_lt false = omega arith
num_lt true = omega arith

num-bit : (n : ℕ) → n < 2 → num (bit n) ≡ n
unfolding num bit
num-bit zero h = refl
num-bit (suc n) h = omega arith

num_inj : (a b : Bool) → num a ≡ num b → a ≡ b
unfolding num
num_inj false false e = refl
num_inj true true e = refl
num_inj false true e = absurd (omega arith)
num_inj true false e = absurd (omega arith)

pub val-append : (a b : List Bool) → val (a ++ b) ≡ val a * 2 ^ length b + val b
unfolding val
val-append [] b = sym (ap (λ (n : ℕ). n + val b) (zero-mul (2 ^ length b)) ∙ zero-add (val b))
val-append (x ∷ a) b =
    ap₂ (λ (n m : ℕ). num x * n + m) (ap (λ (n : ℕ). 2 ^ n) (length-append a b) ∙ pow-add 2 (length a) (length b)) (val-append a b)
    ∙ simp (add-mul, mul_assoc, add_assoc)

pub val_lt : (l : List Bool) → val l < 2 ^ length l
unfolding val
val_lt [] = lit< tt
val_lt (b ∷ l) = rw (pow-succ' 2 (length l)) (digits_lt (num_lt b) (val_lt l))

-- the first w bits, or fewer, are a number below 2 ^ w
pub val-take_lt : (w : ℕ) (l : List Bool) → val (take w l) < 2 ^ w
val-take_lt w l =
    let short : length (take w l) ≤ w = omega (arith, length-take w l) in
    lt_of_lt_of_le (val_lt (take w l)) (pow_mono short)

pub length-bits : (w v : ℕ) → length (bits w v) ≡ w
unfolding bits
length-bits zero v = refl
length-bits (suc w) v = ap suc (length-bits w v)

pub val-bits : (w v : ℕ) → val (bits w v) ≡ v % 2 ^ w
unfolding bits val
val-bits zero v = sym (mod-one v)
val-bits (suc w) v =
    ap₂ (λ (n m : ℕ). n + m) (ap₂ (λ (n m : ℕ). n * 2 ^ m) (num-bit (v / 2 ^ w % 2) (mod-lt (v / 2 ^ w) (lit< tt))) (length-bits w v)) (val-bits w v)
    ∙ sym (mod-pow-add v 1 w)
    ∙ ap (λ (n : ℕ). v % 2 ^ n) (one-add w)

-- a bit string is known by its length and its number
pub val_inj : (a b : List Bool) → length a ≡ length b → val a ≡ val b → a ≡ b
unfolding val
val_inj [] [] e h = refl
val_inj [] (y ∷ b) e h = absurd (omega arith)
val_inj (x ∷ a) [] e h = absurd (omega arith)
val_inj (x ∷ a) (y ∷ b) e h =
    let e' : length a ≡ length b = omega arith in
    let la : val a < 2 ^ length b = subst (λ (n : ℕ). val a < 2 ^ n) e' (val_lt a) in
    let h' : num x * 2 ^ length b + val a ≡ num y * 2 ^ length b + val b = ap (λ (n : ℕ). num x * 2 ^ n + val a) (sym e') ∙ h in
    ap₂ (λ (z : Bool) (l : List Bool). z ∷ l)
    (num_inj x y (sym (high (num x) (length b) la) ∙ ap (λ (n : ℕ). n / 2 ^ length b) h' ∙ high (num y) (length b) (val_lt b)))
    (val_inj a b e' (sym (low (num x) (length b) la) ∙ ap (λ (n : ℕ). n % 2 ^ length b) h' ∙ low (num y) (length b) (val_lt b)))

-- a bit string is the bits of its number
pub bits-val : (l : List Bool) (w : ℕ) → length l ≡ w → bits w (val l) ≡ l
bits-val l w e =
    val_inj (bits w (val l)) l (length-bits w (val l) ∙ sym e)
    (val-bits w (val l) ∙ mod-eq_of_lt (subst (λ (n : ℕ). val l < 2 ^ n) e (val_lt l)))

-- the number comes back if it is in range
pub val-bits_lt : (w v : ℕ) → v < 2 ^ w → val (bits w v) ≡ v
val-bits_lt w v h = val-bits w v ∙ mod-eq_of_lt h

-- the high w bits and the low k bits
pub bits-append : (w k v : ℕ) → bits (w + k) v ≡ bits w (v / 2 ^ k) ++ bits k v
bits-append w k v =
    val_inj (bits (w + k) v) (bits w (v / 2 ^ k) ++ bits k v)
    (length-bits (w + k) v ∙ sym (length-append (bits w (v / 2 ^ k)) (bits k v) ∙ ap₂ (λ (n m : ℕ). n + m) (length-bits w (v / 2 ^ k)) (length-bits k v)))
    (val-bits (w + k) v ∙ mod-pow-add v w k ∙ sym (val-append (bits w (v / 2 ^ k)) (bits k v) ∙ ap₂ (λ (n m : ℕ). n + m) (ap₂ (λ (n m : ℕ). n * 2 ^ m) (val-bits w (v / 2 ^ k)) (length-bits k v)) (val-bits k v)))

pub take-bits : (w k v : ℕ) → take w (bits (w + k) v) ≡ bits w (v / 2 ^ k)
take-bits w k v = ap (λ (l : List Bool). take w l) (bits-append w k v) ∙ take_at (bits w (v / 2 ^ k)) (bits k v) w (length-bits w (v / 2 ^ k))

pub drop_bits : (w k v : ℕ) → drop w (bits (w + k) v) ≡ bits k v
drop_bits w k v = ap (λ (l : List Bool). drop w l) (bits-append w k v) ∙ drop_at (bits w (v / 2 ^ k)) (bits k v) w (length-bits w (v / 2 ^ k))

-- only the low w bits of a number count
pub bits-mod : (w v : ℕ) → bits w (v % 2 ^ w) ≡ bits w v
bits-mod w v =
    val_inj (bits w (v % 2 ^ w)) (bits w v) (length-bits w (v % 2 ^ w) ∙ sym (length-bits w v))
    (val-bits w (v % 2 ^ w) ∙ mod-mod v (2 ^ w) ∙ sym (val-bits w v))

-- a field with a bits before it and k after it, by division
pub val_field : (l : List Bool) (a w k : ℕ) → length l ≡ a + (w + k) → val (stretch a w l) ≡ val l / 2 ^ k % 2 ^ w
val_field l a w k e =
    ap (λ (m : List Bool). val (stretch a w m)) (sym (bits-val l (a + (w + k)) e))
    ∙ ap (λ (m : List Bool). val (take w m)) (drop_bits a (w + k) (val l))
    ∙ ap val (take-bits w k (val l))
    ∙ val-bits w (val l / 2 ^ k)

pub all_zero-append : (a b : List Bool) → all_zero (a ++ b) ≡ all_zero a && all_zero b
unfolding all_zero
all_zero-append [] b = refl
all_zero-append (true ∷ a) b = refl
all_zero-append (false ∷ a) b = all_zero-append a b

-- zero bits are the number 0
pub all_zero-val : (l : List Bool) → all_zero l ≡ eqb (val l) 0
unfolding all_zero val num
all_zero-val [] = refl
all_zero-val (true ∷ l) =
    let p = pow_pos (length l) in
    sym (ne_eqb (1 * 2 ^ length l + val l) 0 (λ e. omega arith))
all_zero-val (false ∷ l) = all_zero-val l ∙ ap (λ (n : ℕ). eqb n 0) (sym (ap (λ (n : ℕ). n + val l) (zero-mul (2 ^ length l)) ∙ zero-add (val l)))

pub zero_bits_lem : (w : ℕ) → all_zero (bits w 0) ≡ true
zero_bits_lem w = all_zero-val (bits w 0) ∙ ap (λ (n : ℕ). eqb n 0) (val-bits w 0 ∙ zero-mod (2 ^ w))
