-- 128 bits as two numbers of 64: what is taken off the front or put before them, by shifts over the width.
use Prim.Native.Nat.{ℕ, ◌+◌, ◌-◌, ◌*◌, ◌/◌, ◌%◌, ◌^◌, ◌<◌, ◌≤◌}
use native.Mathlib.Nat.{add-zero, mul-mod_left, mod-lt, mul_assoc}
use native.Mathlib.Omega.{arith}
use mathlib.Core.Path.{◌≡◌, sym, ap, ap₂, subst, subst⁻¹, ◌∙◌}
use mathlib.Core.Bool.{Bool, ◌&&◌}
use mathlib.Core.List.{List, ◌++◌, append_assoc}
use lib.ListN.{length, take, drop, length-append, length-drop, take-append-drop}
use lib.Seq.{take_at, drop_at, take-append-le, take-append-add, length-take-le}
use lib.Dec.{eqb}
use lib.Pow.{pow_pos, pow-add, shl-shr, shr-shr, shr_lt, high, low, mod-pow-add, mod-mod-pow}
use lib.Arith.{digits_lt}
use Rattle.bits.specs.Bits.{bits, val, all_zero}
use Rattle.bits.proofs.Value.{length-bits, val-bits_lt, bits-val, bits-append, bits-mod, all_zero-append, all_zero-val}
use Rattle.content.specs.Packing.{zeros}
use Rattle.content.specs.Halves.{bits_of, content_of}
use Rattle.content.specs.declared.content.Content.{Content}
use Rattle.content.proofs.Zeros.{bits-zero}

pub length-bits_of : (c : Content) → length (bits_of c) ≡ 128
unfolding bits_of
length-bits_of c = length-append (bits 64 c.high) (bits 64 c.low) ∙ ap₂ (λ (n m : ℕ). n + m) (length-bits 64 c.high) (length-bits 64 c.low)

-- 128 bits come back from the two numbers
pub bits_of-content_of : (l : List Bool) → length l ≡ 128 → bits_of (content_of l) ≡ l
unfolding bits_of content_of
bits_of-content_of l e =
    ap₂ (λ (a b : List Bool). a ++ b)
    (bits-val (take 64 l) 64 (length-take-le 64 l (omega arith)))
    (bits-val (drop 64 l) 64 (omega (arith, length-drop 64 l)))
    ∙ take-append-drop 64 l

-- the two numbers come back from their bits
pub content_of_halves : (a b : ℕ) → a < 2 ^ 64 → b < 2 ^ 64 → content_of (bits 64 a ++ bits 64 b) ≡ record { high = a; low = b }
unfolding content_of
content_of_halves a b ha hb =
    ap₂ (λ (x y : ℕ). let c : Content = record { high = x; low = y } in c)
    (ap val (take_at (bits 64 a) (bits 64 b) 64 (length-bits 64 a)) ∙ val-bits_lt 64 a ha)
    (ap val (drop_at (bits 64 a) (bits 64 b) 64 (length-bits 64 a)) ∙ val-bits_lt 64 b hb)

-- a shift within p + q bits drops the high q of them
shift_left : (x p q : ℕ) → x * 2 ^ q % 2 ^ (p + q) ≡ x % 2 ^ p * 2 ^ q
shift_left x p q =
    mod-pow-add (x * 2 ^ q) p q
    ∙ ap₂ (λ (n m : ℕ). n % 2 ^ p * 2 ^ q + m) (shl-shr x q) (mul-mod_left x (2 ^ q))
    ∙ add-zero (x % 2 ^ p * 2 ^ q)

-- p bits above q bits, in one number
joined_lt : (p q a b : ℕ) → b < 2 ^ q → a % 2 ^ p * 2 ^ q + b < 2 ^ (p + q)
joined_lt p q a b h = rw (pow-add 2 p q) (digits_lt (mod-lt a (pow_pos p)) h)

bits-joined : (p q a b : ℕ) → b < 2 ^ q → bits (p + q) (a % 2 ^ p * 2 ^ q + b) ≡ bits p a ++ bits q b
bits-joined p q a b h =
    let x = a % 2 ^ p * 2 ^ q + b in
    bits-append p q x
    ∙ ap₂ (λ (m l : List Bool). m ++ l)
    (ap (bits p) (high (a % 2 ^ p) q h) ∙ bits-mod p a)
    (sym (bits-mod q x) ∙ ap (bits q) (low (a % 2 ^ p) q h))

regroup : (p q r s : List Bool) → (p ++ (q ++ r)) ++ s ≡ (p ++ q) ++ (r ++ s)
regroup p q r s = simp append_assoc

regroup' : (p q r s : List Bool) → p ++ ((q ++ r) ++ s) ≡ (p ++ q) ++ (r ++ s)
regroup' p q r s = simp append_assoc

-- the first w of 64 bits, and the k after them
cut : (w k x : ℕ) → w + k ≡ 64 → bits 64 x ≡ bits w (x / 2 ^ k) ++ bits k x
cut w k x all = ap (λ (n : ℕ). bits n x) (sym all) ∙ bits-append w k x

high_bits_lt : (w k x : ℕ) → w + k ≡ 64 → x < 2 ^ 64 → x / 2 ^ k < 2 ^ w
high_bits_lt w k x all h = shr_lt w k (subst (λ (n : ℕ). x < 2 ^ n) (sym all) h)

-- w bits of v above k bits, 64 in all
abbrev above : ℕ → ℕ → ℕ → ℕ → ℕ
above w k v x = v % 2 ^ w * 2 ^ k + x

above_lt : (w k v x : ℕ) → w + k ≡ 64 → x < 2 ^ k → above w k v x < 2 ^ 64
above_lt w k v x all h = subst (λ (n : ℕ). above w k v x < 2 ^ n) all (joined_lt w k v x h)

bits_above : (w k v x : ℕ) → w + k ≡ 64 → x < 2 ^ k → bits 64 (above w k v x) ≡ bits w v ++ bits k x
bits_above w k v x all h = ap (λ (n : ℕ). bits n (above w k v x)) (sym all) ∙ bits-joined w k v x h

val-top : (x w : ℕ) → w < 64 → x < 2 ^ 64 → val (take w (bits 64 x)) ≡ x / 2 ^ (64 - w)
val-top x w h r =
    let k = 64 - w in
    let all : w + k ≡ 64 = omega arith in
    ap (λ (l : List Bool). val (take w l)) (cut w k x all)
    ∙ ap val (take_at (bits w (x / 2 ^ k)) (bits k x) w (length-bits w (x / 2 ^ k)))
    ∙ val-bits_lt w (x / 2 ^ k) (high_bits_lt w k x all r)

zero-top : (x w : ℕ) → w < 64 → x < 2 ^ 64 → all_zero (take w (bits 64 x)) ≡ eqb (x / 2 ^ (64 - w)) 0
zero-top x w h r = all_zero-val (take w (bits 64 x)) ∙ ap (λ (n : ℕ). eqb n 0) (val-top x w h r)

module _ (c : Content) (ha : c.high < 2 ^ 64) (hb : c.low < 2 ^ 64) where
  -- fewer than 64 bits lie in the first number
  within_high : (w : ℕ) → w < 64 → take w (bits_of c) ≡ take w (bits 64 c.high)
  unfolding bits_of
  within_high w h = take-append-le w (bits 64 c.high) (bits 64 c.low) (omega (arith, length-bits 64 c.high))

  pub val-first : (w : ℕ) → w < 64 → val (take w (bits_of c)) ≡ c.high / 2 ^ (64 - w)
  val-first w h = ap val (within_high w h) ∙ val-top c.high w h ha

  pub zero-first : (w : ℕ) → w < 64 → all_zero (take w (bits_of c)) ≡ eqb (c.high / 2 ^ (64 - w)) 0
  zero-first w h = ap all_zero (within_high w h) ∙ zero-top c.high w h ha

  pub zero_beyond : (n : ℕ) → 64 ≤ n → n < 128 → all_zero (take n (bits_of c)) ≡ eqb c.high 0 && eqb (c.low / 2 ^ (64 - (n - 64))) 0
  unfolding bits_of
  zero_beyond n h g =
      let a = bits 64 c.high in
      let b = bits 64 c.low in
      let e : n ≡ length a + (n - 64) = omega (arith, length-bits 64 c.high) in
      ap (λ (m : ℕ). all_zero (take m (a ++ b))) e
      ∙ ap all_zero (take-append-add a b (n - 64))
      ∙ all_zero-append a (take (n - 64) b)
      ∙ ap₂ ◌&&◌ (all_zero-val a ∙ ap (λ (x : ℕ). eqb x 0) (val-bits_lt 64 c.high ha)) (zero-top c.low (n - 64) (omega arith) hb)

  module _ (w : ℕ) (h : w < 64) where
    abbrev k : ℕ
    k = 64 - w

    all : w + k ≡ 64
    all = omega arith

    all' : k + w ≡ 64
    all' = omega arith

    shl : (x : ℕ) → x * 2 ^ w % 2 ^ 64 ≡ x % 2 ^ k * 2 ^ w
    shl x = ap (λ (n : ℕ). x * 2 ^ w % 2 ^ n) (sym all') ∙ shift_left x k w

    -- the two numbers once the first w bits are dropped
    pub shifted_lt : c.high * 2 ^ w % 2 ^ 64 + c.low / 2 ^ k < 2 ^ 64
    shifted_lt = subst⁻¹ (λ (n : ℕ). n + c.low / 2 ^ k < 2 ^ 64) (shl c.high) (above_lt k w c.high (c.low / 2 ^ k) all' (high_bits_lt w k c.low all hb))

    pub shifted : record { high = c.high * 2 ^ w % 2 ^ 64 + c.low / 2 ^ k; low = c.low * 2 ^ w % 2 ^ 64 } ≡ content_of (drop w (bits_of c) ++ zeros w)
    unfolding bits_of
    shifted =
        let a = c.high in
        let b = c.low in
        let front = bits w (a / 2 ^ k) in
        let l = high_bits_lt w k b all hb in
        ap₂ (λ (x y : ℕ). let d : Content = record { high = x; low = y } in d)
        (ap (λ (n : ℕ). n + b / 2 ^ k) (shl a))
        (shl b ∙ sym (add-zero (b % 2 ^ k * 2 ^ w)))
        ∙ sym (content_of_halves (above k w a (b / 2 ^ k)) (above k w b 0) (above_lt k w a (b / 2 ^ k) all' l) (above_lt k w b 0 all' (pow_pos w)))
        ∙ sym (ap content_of
        (ap (λ (m : List Bool). drop w (m ++ bits 64 b) ++ zeros w) (cut w k a all)
        ∙ ap (λ (m : List Bool). drop w m ++ zeros w) (append_assoc front (bits k a) (bits 64 b))
        ∙ ap (λ (m : List Bool). m ++ zeros w) (drop_at front (bits k a ++ bits 64 b) w (length-bits w (a / 2 ^ k)))
        ∙ ap₂ (λ (m z : List Bool). (bits k a ++ m) ++ z) (cut w k b all) (sym (bits-zero w))
        ∙ regroup (bits k a) (bits w (b / 2 ^ k)) (bits k b) (bits w 0)
        ∙ sym (ap₂ (λ (m n : List Bool). m ++ n) (bits_above k w a (b / 2 ^ k) all' l) (bits_above k w b 0 all' (pow_pos w)))))

    -- the two numbers with w bits put before them
    pub raised_lt : (v x : ℕ) → x < 2 ^ 64 → v % 2 ^ w * 2 ^ k + x / 2 ^ w < 2 ^ 64
    raised_lt v x r = above_lt w k v (x / 2 ^ w) all (high_bits_lt k w x all' r)

    pub prefixed : (v : ℕ)
        → record { high = v % 2 ^ w * 2 ^ k + c.high / 2 ^ w; low = c.high % 2 ^ w * 2 ^ k + c.low / 2 ^ w } ≡ content_of (bits w v ++ take (128 - w) (bits_of c))
    unfolding bits_of
    prefixed v =
        let a = c.high in
        let b = c.low in
        let n : 128 - w ≡ length (bits 64 a) + k = omega (arith, length-bits 64 a) in
        sym (content_of_halves (above w k v (a / 2 ^ w)) (above w k a (b / 2 ^ w)) (raised_lt v a ha) (raised_lt a b hb))
        ∙ sym (ap content_of
        (ap (λ (m : ℕ). bits w v ++ take m (bits 64 a ++ bits 64 b)) n
        ∙ ap (λ (m : List Bool). bits w v ++ m) (take-append-add (bits 64 a) (bits 64 b) k)
        ∙ ap₂ (λ (m l : List Bool). bits w v ++ (m ++ take k l)) (cut k w a all') (cut k w b all')
        ∙ ap (λ (m : List Bool). bits w v ++ ((bits k (a / 2 ^ w) ++ bits w a) ++ m)) (take_at (bits k (b / 2 ^ w)) (bits w b) k (length-bits k (b / 2 ^ w)))
        ∙ regroup' (bits w v) (bits k (a / 2 ^ w)) (bits w a) (bits k (b / 2 ^ w))
        ∙ sym (ap₂ (λ (m l : List Bool). m ++ l) (bits_above w k v (a / 2 ^ w) all (high_bits_lt k w a all' ha)) (bits_above w k a (b / 2 ^ w) all (high_bits_lt k w b all' hb)))))

-- two shifts stand for one of up to 64
pub two_shifts_down : (x w : ℕ) → w < 64 → x / 2 ^ 1 / 2 ^ (63 - w) ≡ x / 2 ^ (64 - w)
two_shifts_down x w h =
    let e : 1 + (63 - w) ≡ 64 - w = omega arith in
    shr-shr x 1 (63 - w) ∙ ap (λ (n : ℕ). x / 2 ^ n) e

pub two_shifts_up : (x w : ℕ) → w < 64 → x * 2 ^ (63 - w) % 2 ^ 64 * 2 ^ 1 % 2 ^ 64 ≡ x % 2 ^ w * 2 ^ (64 - w)
two_shifts_up x w h =
    let k = 63 - w in
    let e : 1 + w + k ≡ 64 = omega arith in
    let e' : w + (k + 1) ≡ 64 = omega arith in
    let e'' : k + 1 ≡ 64 - w = omega arith in
    let y = x % 2 ^ (1 + w) in
    ap (λ (n : ℕ). n * 2 ^ 1 % 2 ^ 64) (ap (λ (n : ℕ). x * 2 ^ k % 2 ^ n) (sym e) ∙ shift_left x (1 + w) k)
    ∙ ap (λ (n : ℕ). n % 2 ^ 64) (mul_assoc y (2 ^ k) (2 ^ 1) ∙ ap (λ (n : ℕ). y * n) (sym (pow-add 2 k 1)))
    ∙ ap (λ (n : ℕ). y * 2 ^ (k + 1) % 2 ^ n) (sym e')
    ∙ shift_left y w (k + 1)
    ∙ ap₂ (λ (n m : ℕ). n * 2 ^ m) (mod-mod-pow x 1 w) e''
