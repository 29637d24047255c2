-- Bits that must be zero, byte by byte and in numbers of several bytes.
use Prim.Native.Nat.{ℕ, zero, suc, ◌+◌, ◌-◌, ◌*◌, ◌^◌, ◌≤◌, ◌<◌}
use mathlib.Core.Path.{◌≡◌, refl, sym, ap, ap₂, subst, ◌∙◌}
use mathlib.Core.Bool.{Bool, true, false, not, ◌&&◌, and_assoc}
use mathlib.Core.List.{List, [], ◌∷◌, ◌++◌, map}
use native.Mathlib.Omega.{arith}
use lib.ListN.{length, take, drop, get_or, replicate, drop_of_length-le, get_or-eq_default}
use lib.Dec.{leb, ltb, eqb}
use lib.Bits.{bit_and, and_zero_l, and_zero_r, and_mask, and_block}
use borrow.Author.Tests.{leb-true, leb-false, ltb-true, ltb-false, eqb-true, eqb-false, eq-eqb, ne_eqb}
use Rattle.bits.specs.Bits.{bits, all_zero}
use Rattle.bits.specs.Fields.{flat}
use Rattle.bits.proofs.Choice.{and_left, and_right}
use Rattle.bits.proofs.Value.{length-bits, val-bits, drop_bits, all_zero-append, all_zero-val}
use Rattle.record.specs.Layout.{byte_at, eight_at}
use Rattle.record.specs.WellFormed.{within}
use Rattle.record.specs.Zeros.{spares}
use Rattle.record.proofs.Ranges.{all_below, all_below_at, all_below_same, all_below_true, all_below_first}

-- the number that bytes are, the first one lowest
unfoldable pub little : List ℕ → ℕ
little [] = 0
little (b ∷ bs) = little bs * 256 + b

-- the bits of each mask are zero in its byte
unfoldable pub clear : (ms xs : List ℕ) → Bool
clear [] xs = true
clear (m ∷ ms) [] = true
clear (m ∷ ms) (x ∷ xs) = eqb (bit_and x m) 0 && clear ms xs

abbrev pub Bytes : List ℕ → Type 0
Bytes l = (i : ℕ) → get_or l i 0 < 256

-- a number with a byte below it is zero if both are
sum-zero : (a b : ℕ) → eqb (a * 256 + b) 0 ≡ eqb b 0 && eqb a 0
sum-zero a b = by_tests (eqb b 0) refl (eqb a 0) refl
  where
    by_tests : (y : Bool) → eqb b 0 ≡ y → (x : Bool) → eqb a 0 ≡ x → eqb (a * 256 + b) 0 ≡ eqb b 0 && eqb a 0
    by_tests true f true e = eq-eqb (a * 256 + b) 0 (omega (arith, eqb-true a 0 e, eqb-true b 0 f)) ∙ sym (ap₂ (λ (y x : Bool). y && x) f e)
    by_tests true f false e = ne_eqb (a * 256 + b) 0 (λ z. eqb-false a 0 e (omega arith)) ∙ sym (ap₂ (λ (y x : Bool). y && x) f e)
    by_tests false f x e = ne_eqb (a * 256 + b) 0 (λ z. eqb-false b 0 f (omega arith)) ∙ sym (ap₂ (λ (y x : Bool). y && x) f e)

-- the masks of bytes as one mask
pub clear_is : (ms xs : List ℕ) → Bytes ms → Bytes xs → eqb (bit_and (little xs) (little ms)) 0 ≡ clear ms xs
unfolding clear little
clear_is [] xs hm hx = ap (λ (n : ℕ). eqb n 0) (and_zero_r (little xs))
clear_is (m ∷ ms) [] hm hx = ap (λ (n : ℕ). eqb n 0) (and_zero_l (little (m ∷ ms)))
clear_is (m ∷ ms) (x ∷ xs) hm hx =
    ap (λ (n : ℕ). eqb n 0) (and_block 8 (little xs) (little ms) x m (hx 0) (hm 0))
    ∙ sum-zero (bit_and (little xs) (little ms)) (bit_and x m)
    ∙ ap (λ (b : Bool). eqb (bit_and x m) 0 && b) (clear_is ms xs (λ i. hm (suc i)) (λ i. hx (suc i)))

-- no masks, and none of any use
clear-empty : (ms : List ℕ) → clear ms [] ≡ true
unfolding clear
clear-empty [] = refl
clear-empty (m ∷ ms) = refl

pub clear_none : (n : ℕ) (xs : List ℕ) → clear (replicate n 0) xs ≡ true
unfolding clear
clear_none zero xs = refl
clear_none (suc n) [] = refl
clear_none (suc n) (x ∷ xs) = ap₂ (λ (a : ℕ) (b : Bool). eqb a 0 && b) (and_zero_r x) (clear_none n xs)

-- the first n and the others
pub clear_split : (n : ℕ) (ms xs : List ℕ) → clear ms xs ≡ clear (take n ms) (take n xs) && clear (drop n ms) (drop n xs)
unfolding clear
clear_split zero ms xs = refl
clear_split (suc n) [] xs = refl
clear_split (suc n) (m ∷ ms) [] = sym (clear-empty (drop n ms))
clear_split (suc n) (m ∷ ms) (x ∷ xs) =
    ap (λ (b : Bool). eqb (bit_and x m) 0 && b) (clear_split n ms xs)
    ∙ sym (and_assoc (eqb (bit_and x m) 0) (clear (take n ms) (take n xs)) (clear (drop n ms) (drop n xs)))

-- byte by byte
abbrev pub zero_at : (ms xs : List ℕ) → ℕ → Bool
zero_at ms xs k = eqb (bit_and (get_or xs k 0) (get_or ms k 0)) 0

pub clear-all : (n : ℕ) (ms xs : List ℕ) → length xs ≤ n → clear ms xs ≡ all_below (zero_at ms xs) n
unfolding clear
clear-all n [] xs h = sym (all_below_true (zero_at [] xs) n (λ k l. ap (λ (x : ℕ). eqb x 0) (and_zero_r (get_or xs k 0))))
clear-all n (m ∷ ms) [] h = sym (all_below_true (zero_at (m ∷ ms) []) n (λ k l. ap (λ (x : ℕ). eqb x 0) (and_zero_l (get_or (m ∷ ms) k 0))))
clear-all zero (m ∷ ms) (x ∷ xs) h = absurd (omega arith)
clear-all (suc n) (m ∷ ms) (x ∷ xs) h =
    ap (λ (b : Bool). eqb (bit_and x m) 0 && b) (clear-all n ms xs (omega arith)) ∙ sym (all_below_first (zero_at (m ∷ ms) (x ∷ xs)) n)

drop-append : (n : ℕ) (a b : List Bool) → drop n (a ++ b) ≡ drop n a ++ drop (n - length a) b
drop-append zero a b = let z : 0 ≡ 0 - length a = omega arith in ap (λ (k : ℕ). a ++ drop k b) z
drop-append (suc n) [] b = let z : suc n ≡ suc n - 0 = omega arith in ap (λ (k : ℕ). drop k b) z
drop-append (suc n) (x ∷ a) b = let s : n - length a ≡ suc n - suc (length a) = omega arith in drop-append n a b ∙ ap (λ (k : ℕ). drop n a ++ drop k b) s

-- the bits of a number after the first u, by a mask
mask_zero : (w x u : ℕ) → all_zero (drop u (bits w x)) ≡ eqb (bit_and x (2 ^ (w - u) - 1)) 0
unfolding all_zero
mask_zero w x u = by_test (leb u w) refl
  where
    by_test : (b : Bool) → leb u w ≡ b → all_zero (drop u (bits w x)) ≡ eqb (bit_and x (2 ^ (w - u) - 1)) 0
    by_test true e =
        let h : u ≤ w = leb-true u w e in
        let s : w ≡ u + (w - u) = omega arith in
        ap all_zero (ap (λ (n : ℕ). drop u (bits n x)) s ∙ drop_bits u (w - u) x)
        ∙ all_zero-val (bits (w - u) x)
        ∙ ap (λ (n : ℕ). eqb n 0) (val-bits (w - u) x ∙ sym (and_mask x (w - u)))
    by_test false e =
        let h : w < u = leb-false u w e in
        let z : w - u ≡ 0 = omega arith in
        let past : length (bits w x) ≤ u = omega (arith, length-bits w x) in
        ap all_zero (drop_of_length-le (bits w x) past) ∙ sym (ap (λ (n : ℕ). eqb n 0) (ap (λ (k : ℕ). bit_and x (2 ^ k - 1)) z ∙ and_zero_r x))

pub spare_clear : (u : ℕ) (xs : List ℕ) → all_zero (drop u (flat 8 xs)) ≡ clear (spares u (length xs)) xs
unfolding clear spares flat all_zero
spare_clear u [] = let h : 0 ≤ u = omega arith in ap all_zero (drop_of_length-le {A = Bool} [] h)
spare_clear u (x ∷ xs) =
    ap all_zero (drop-append u (bits 8 x) (flat 8 xs) ∙ ap (λ (n : ℕ). drop u (bits 8 x) ++ drop (u - n) (flat 8 xs)) (length-bits 8 x))
    ∙ all_zero-append (drop u (bits 8 x)) (drop (u - 8) (flat 8 xs))
    ∙ ap₂ (λ (a b : Bool). a && b) (mask_zero 8 x u) (spare_clear (u - 8) xs)

-- whether two tests say the same
unfoldable pub same : Bool → Bool → Bool
same true b = b
same false b = not b

pub same_is : (a b : Bool) → same a b ≡ true → a ≡ b
unfolding same
same_is true b e = sym e
same_is false true e = e
same_is false false e = refl

-- a byte is below 2 ^ w if the bits above are zero
abbrev limited : ℕ → ℕ → Bool
limited w b = same (ltb b (2 ^ w)) (eqb (bit_and b (256 - 2 ^ w)) 0)

limited_all : all_below (λ w. all_below (limited w) 256) 9 ≡ true
unfolding all_below same
limited_all = refl

pub limit : (w b : ℕ) → w < 9 → b < 256 → ltb b (2 ^ w) ≡ eqb (bit_and b (256 - 2 ^ w)) 0
limit w b hw hb = same_is (ltb b (2 ^ w)) (eqb (bit_and b (256 - 2 ^ w)) 0) (all_below_at (limited w) 256 b (all_below_at (λ w. all_below (limited w) 256) 9 w limited_all hw) hb)

-- every number of a list is below n
unfoldable pub all_less : ℕ → List ℕ → Bool
all_less n [] = true
all_less n (m ∷ ms) = ltb m n && all_less n ms

pub all_less_lem : (n d : ℕ) (ms : List ℕ) → d < n → all_less n ms ≡ true → (i : ℕ) → get_or ms i d < n
unfolding all_less
all_less_lem n d [] k h i = k
all_less_lem n d (m ∷ ms) k h zero = ltb-true m n (and_left (ltb m n) (all_less n ms) h)
all_less_lem n d (m ∷ ms) k h (suc i) = all_less_lem n d ms k (and_right (ltb m n) (all_less n ms) h) i

-- the bits of bytes as masks
pub within-clear : (ws xs : List ℕ) → all_less 9 ws ≡ true → Bytes xs → within ws xs ≡ clear (map (λ w. 256 - 2 ^ w) ws) xs
unfolding within clear all_less
within-clear [] xs h b = refl
within-clear (w ∷ ws) [] h b = refl
within-clear (w ∷ ws) (x ∷ xs) h b =
    ap₂ (λ (p q : Bool). p && q) (limit w x (ltb-true w 9 (and_left (ltb w 9) (all_less 9 ws) h)) (b 0)) (within-clear ws xs (and_right (ltb w 9) (all_less 9 ws) h) (λ i. b (suc i)))

-- eight bytes at once
eights : List ℕ → ℕ → List ℕ
eights r a = get_or r a 0 ∷ get_or r (a + 1) 0 ∷ get_or r (a + 2) 0 ∷ get_or r (a + 3) 0 ∷ get_or r (a + 4) 0 ∷ get_or r (a + 4 + 1) 0 ∷ get_or r (a + 4 + 2) 0 ∷ get_or r (a + 4 + 3) 0 ∷ []

eights_at : (r : List ℕ) (a k : ℕ) → k < 8 → get_or (eights r a) k 0 ≡ get_or r (a + k) 0
unfolding eights
eights_at r a zero h = let e : a ≡ a + 0 = omega arith in ap (byte_at r) e
eights_at r a (suc zero) h = refl
eights_at r a (suc (suc zero)) h = refl
eights_at r a (suc (suc (suc zero))) h = refl
eights_at r a (suc (suc (suc (suc zero)))) h = refl
eights_at r a (suc (suc (suc (suc (suc zero))))) h = let e : a + 4 + 1 ≡ a + 5 = omega arith in ap (byte_at r) e
eights_at r a (suc (suc (suc (suc (suc (suc zero)))))) h = let e : a + 4 + 2 ≡ a + 6 = omega arith in ap (byte_at r) e
eights_at r a (suc (suc (suc (suc (suc (suc (suc zero))))))) h = let e : a + 4 + 3 ≡ a + 7 = omega arith in ap (byte_at r) e
eights_at r a (suc (suc (suc (suc (suc (suc (suc (suc k)))))))) h = absurd (omega arith)

eights_lt : (r : List ℕ) (a : ℕ) → Bytes r → Bytes (eights r a)
eights_lt r a h k = by_test (ltb k 8) refl
  where
    by_test : (b : Bool) → ltb k 8 ≡ b → get_or (eights r a) k 0 < 256
    by_test true e = subst (λ (n : ℕ). n < 256) (sym (eights_at r a k (ltb-true k 8 e))) (h (a + k))
    by_test false e = past (eights r a) (unfold eights in refl)
      where
        past : (l : List ℕ) → length l ≡ 8 → get_or l k 0 < 256
        past l f = let z = get_or-eq_default l 0 {n = k} (omega (arith, ltb-false k 8 e)) in omega arith

-- the masks of eight bytes as one mask
pub eight-zero : (ms xs : List ℕ) (i j : ℕ) → Bytes ms → Bytes xs → eqb (bit_and (eight_at xs j) (eight_at ms i)) 0 ≡ all_below (λ k. eqb (bit_and (get_or xs (j + k) 0) (get_or ms (i + k) 0)) 0) 8
eight-zero ms xs i j hm hx =
    let number : (r : List ℕ) (a : ℕ) → eight_at r a ≡ little (eights r a) = λ r a. unfold little eights in omega arith in
    let size : length (eights xs j) ≤ 8 = unfold eights in omega arith in
    ap₂ (λ (x m : ℕ). eqb (bit_and x m) 0) (number xs j) (number ms i)
    ∙ clear_is (eights ms i) (eights xs j) (eights_lt ms i hm) (eights_lt xs j hx)
    ∙ clear-all 8 (eights ms i) (eights xs j) size
    ∙ all_below_same (zero_at (eights ms i) (eights xs j)) (λ k. eqb (bit_and (get_or xs (j + k) 0) (get_or ms (i + k) 0)) 0) 8 (λ k h. ap₂ (λ (x m : ℕ). eqb (bit_and x m) 0) (eights_at xs j k h) (eights_at ms i k h))
