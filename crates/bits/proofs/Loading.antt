-- What a turn of the loops of `fold` and `store` does, and a number by its parts.
use Prim.Native.Nat.{ℕ, suc, ◌+◌, ◌*◌, ◌/◌, ◌%◌, ◌^◌, ◌<◌, ◌≤◌}
use native.Mathlib.Nat.{suc-mul, add_comm, lt_of_lt_of_le, mul-le-mul_right}
use native.Mathlib.Omega.{arith}
use mathlib.Core.Path.{◌≡◌, sym, ap, ap₂, subst, ◌∙◌}
use mathlib.Core.Bool.{Bool}
use mathlib.Core.List.{List, [], ◌∷◌, ◌++◌}
use lib.ListN.{length, take, drop, get_or, set, length-drop, take-append-drop}
use lib.Seq.{take-suc, take_all, set_at, append_snoc, length-take-le}
use lib.Pow.{pow_mono, shr-shr}
use Rattle.bits.specs.Bits.{bits, val}
use Rattle.bits.specs.Fields.{flat, words}
use Rattle.bits.proofs.Value.{val-append, val_lt, val-bits, length-bits, take-bits, drop_bits, val-bits_lt}
use Rattle.bits.proofs.Fields.{length-flat, flat_append, flat_one}

-- one byte more
pub load-more : (s : List ℕ) (i : ℕ) → i < length s → get_or s i 0 < 256 → val (flat 8 (take i s)) * 256 + get_or s i 0 ≡ val (flat 8 (take (suc i) s))
load-more s i h b =
    sym (ap (λ (l : List ℕ). val (flat 8 l)) (take-suc s i 0 h)
    ∙ ap val (flat_append 8 (take i s) (get_or s i 0 ∷ []) ∙ ap (λ (l : List Bool). flat 8 (take i s) ++ l) (flat_one 8 (get_or s i 0)))
    ∙ val-append (flat 8 (take i s)) (bits 8 (get_or s i 0))
    ∙ ap₂ (λ (n m : ℕ). val (flat 8 (take i s)) * 2 ^ n + m) (length-bits 8 (get_or s i 0)) (val-bits_lt 8 (get_or s i 0) b))

-- i bytes and the n after them
pub load_parts : (s : List ℕ) (i n : ℕ) → length s ≡ i + n → val (flat 8 (take i s)) * 2 ^ (n * 8) + val (flat 8 (take n (drop i s))) ≡ val (flat 8 s)
load_parts s i n e =
    let part = take n (drop i s) in
    let size : length (drop i s) ≡ n = omega (arith, length-drop i s) in
    let all : part ≡ drop i s = take_all n (drop i s) (omega arith) in
    ap (λ (m : ℕ). val (flat 8 (take i s)) * 2 ^ m + val (flat 8 part)) (sym (length-flat 8 part ∙ ap (λ (m : ℕ). m * 8) (ap length all ∙ size)))
    ∙ sym (val-append (flat 8 (take i s)) (flat 8 part))
    ∙ ap val (sym (flat_append 8 (take i s) part) ∙ ap (flat 8) (ap (λ (l : List ℕ). take i s ++ l) all ∙ take-append-drop i s))

-- i bytes make a number below 2 ^ 8i
pub load_lt : (s : List ℕ) (i n : ℕ) → i ≤ length s → i ≤ n → val (flat 8 (take i s)) < 2 ^ (n * 8)
load_lt s i n h g =
    lt_of_lt_of_le (val_lt (flat 8 (take i s)))
    (pow_mono (subst (λ (m : ℕ). m ≤ n * 8) (sym (length-flat 8 (take i s) ∙ ap (λ (m : ℕ). m * 8) (length-take-le i s h))) (mul-le-mul_right 8 g)))

-- the k low bytes of v
abbrev pub low_bytes : ℕ → ℕ → List ℕ
low_bytes k v = words 8 k (bits (k * 8) v)

low_bytes_suc : (k v : ℕ) → low_bytes (suc k) v ≡ (v / 2 ^ (k * 8) % 256) ∷ low_bytes k v
unfolding words
low_bytes_suc k v =
    ap (λ (n : ℕ). words 8 (suc k) (bits n v)) (suc-mul k 8 ∙ add_comm (k * 8) 8)
    ∙ ap₂ (λ (x : ℕ) (l : List Bool). x ∷ words 8 k l) (ap val (take-bits 8 (k * 8) v) ∙ val-bits 8 (v / 2 ^ (k * 8))) (drop_bits 8 (k * 8) v)

-- one byte more, from the end
pub store-more : (s : List ℕ) (i k v : ℕ) → i < length s → set (take (suc i) s ++ low_bytes k v) i (v / 2 ^ (k * 8) % 256) ≡ take i s ++ low_bytes (suc k) v
store-more s i k v h =
    ap (λ (l : List ℕ). set l i (v / 2 ^ (k * 8) % 256)) (ap (λ (l : List ℕ). l ++ low_bytes k v) (take-suc s i 0 h) ∙ append_snoc (take i s) (get_or s i 0) (low_bytes k v))
    ∙ set_at (take i s) (get_or s i 0) (low_bytes k v) (v / 2 ^ (k * 8) % 256) i (length-take-le i s (omega arith))
    ∙ ap (λ (l : List ℕ). take i s ++ l) (sym (low_bytes_suc k v))

pub rest_more : (k v : ℕ) → v / 2 ^ (k * 8) / 256 ≡ v / 2 ^ (suc k * 8)
rest_more k v = shr-shr v (k * 8) 8 ∙ ap (λ (n : ℕ). v / 2 ^ n) (sym (suc-mul k 8))
