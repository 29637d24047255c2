-- What enters the register next: the highest of the bits left of a byte, the first of the bytes left.
use Prim.Native.Nat.{ℕ, zero, suc, ◌/◌, ◌%◌, ◌^◌, ◌<◌}
use native.Mathlib.Nat.{mod-lt}
use native.Mathlib.Omega.{arith}
use mathlib.Core.Path.{◌≡◌, refl, sym, ap, ◌∙◌}
use mathlib.Core.Bool.{Bool}
use mathlib.Core.List.{List, [], ◌∷◌, ◌++◌}
use lib.ListN.{length, drop, get_or}
use lib.Seq.{drop-cons}
use lib.Dec.{eqb, lit<}
use Rattle.bits.specs.Bits.{bit, bits}
use Rattle.bits.specs.Fields.{flat}
use Rattle.crc.specs.Register.{shifted, entered}

-- a bit is set if it is 1
is_one : (n : ℕ) → n < 2 → eqb n 1 ≡ bit n
unfolding bit
is_one zero h = refl
is_one (suc zero) h = refl
is_one (suc (suc n)) h = absurd (omega arith)

-- n bits are left, and w after the next
pub bit-next : (r n w v : ℕ) → n ≡ suc w → entered (shifted r (eqb (v / 2 ^ w % 2) 1)) (bits w v) ≡ entered r (bits n v)
unfolding entered bits
bit-next r n w v e =
    ap (λ (b : Bool). entered (shifted r b) (bits w v)) (is_one (v / 2 ^ w % 2) (mod-lt (v / 2 ^ w) (lit< tt)))
    ∙ ap (λ (k : ℕ). entered r (bits k v)) (sym e)

entered-append : (a b : List Bool) (r : ℕ) → entered r (a ++ b) ≡ entered (entered r a) b
unfolding entered
entered-append [] b r = refl
entered-append (x ∷ a) b r = entered-append a b (shifted r x)

pub byte_next : (r i : ℕ) (s : List ℕ) → i < length s
    → entered (entered r (bits 8 (get_or s i 0))) (flat 8 (drop (suc i) s)) ≡ entered r (flat 8 (drop i s))
unfolding flat
byte_next r i s h =
    sym (ap (λ (l : List ℕ). entered r (flat 8 l)) (drop-cons s i 0 h)
    ∙ entered-append (bits 8 (get_or s i 0)) (flat 8 (drop (suc i) s)) r)
