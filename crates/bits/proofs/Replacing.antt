-- A number with a field of w bits replaced, above its k lowest: it fits, and its bits are an overlay.
use Prim.Native.Nat.{ℕ, ◌+◌, ◌-◌, ◌*◌, ◌/◌, ◌%◌, ◌^◌, ◌<◌, ◌≤◌}
use native.Mathlib.Nat.{mod-lt, add_assoc}
use native.Mathlib.Omega.{arith}
use mathlib.Core.Path.{◌≡◌, sym, ap, ap₂, subst, ◌∙◌}
use mathlib.Core.Bool.{Bool}
use mathlib.Core.List.{List, ◌++◌, append_assoc}
use lib.ListN.{length, take, drop}
use lib.Pow.{pow_pos, pow-add, shr_lt, high, low}
use lib.Arith.{digits_lt}
use Rattle.bits.specs.Bits.{bits}
use Rattle.bits.specs.Overlay.{overlay}
use Rattle.bits.proofs.Value.{length-bits, bits-append, bits-mod, take-bits, drop_bits}

pub low_part_lt : (w k v x : ℕ) → v % 2 ^ w * 2 ^ k + x % 2 ^ k < 2 ^ (w + k)
low_part_lt w k v x = rw (pow-add 2 w k) (digits_lt (mod-lt v (pow_pos w)) (mod-lt x (pow_pos k)))

pub kept_high_lt : (m x r : ℕ) → m ≤ 64 → x < 2 ^ 64 → r < 2 ^ m → x / 2 ^ m * 2 ^ m + r < 2 ^ 64
kept_high_lt m x r g h l =
    let e : 64 - m + m ≡ 64 = omega arith in
    subst (λ (n : ℕ). x / 2 ^ m * 2 ^ m + r < n) (sym (pow-add 2 (64 - m) m) ∙ ap (λ (n : ℕ). 2 ^ n) e)
    (digits_lt (shr_lt (64 - m) m (subst (λ (n : ℕ). x < 2 ^ n) (sym e) h)) l)

-- x with v's low w bits in the place of those above its k lowest
abbrev pub replaced_by : ℕ → ℕ → ℕ → ℕ → ℕ
replaced_by x w k v = x / 2 ^ (w + k) * 2 ^ (w + k) + (v % 2 ^ w * 2 ^ k + x % 2 ^ k)

pub replaced-overlay : (o w k x v : ℕ) → bits (o + (w + k)) (replaced_by x w k v) ≡ overlay o (bits w v) (bits (o + (w + k)) x)
replaced-overlay o w k x v =
    let r = v % 2 ^ w * 2 ^ k + x % 2 ^ k in
    let y = replaced_by x w k v in
    let below = low_part_lt w k v x in
    let last = mod-lt x (pow_pos k) in
    bits-append o (w + k) y
    ∙ ap₂ (λ (a b : List Bool). a ++ b)
    (ap (bits o) (high (x / 2 ^ (w + k)) (w + k) below) ∙ sym (take-bits o (w + k) x))
    (sym (bits-mod (w + k) y)
    ∙ ap (bits (w + k)) (low (x / 2 ^ (w + k)) (w + k) below)
    ∙ bits-append w k r
    ∙ ap₂ (λ (a b : List Bool). a ++ b)
    (ap (bits w) (high (v % 2 ^ w) k last) ∙ bits-mod w v)
    (sym (bits-mod k r) ∙ ap (bits k) (low (v % 2 ^ w) k last) ∙ bits-mod k x ∙ sym (drop_bits (o + w) k x)
    ∙ ap₂ (λ (n m : ℕ). drop (o + n) (bits m x)) (sym (length-bits w v)) (add_assoc o w k)))
    ∙ sym (append_assoc (take o (bits (o + (w + k)) x)) (bits w v) (drop (o + length (bits w v)) (bits (o + (w + k)) x)))
