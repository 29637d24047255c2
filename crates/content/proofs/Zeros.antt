-- The laws of zero bits.
use Prim.Native.Nat.{ℕ, zero, suc, ◌≤◌}
use native.Mathlib.Nat.{mod-eq_of_lt}
use native.Mathlib.Omega.{arith}
use mathlib.Core.Path.{◌≡◌, refl, ap, ◌∙◌}
use mathlib.Core.Bool.{Bool, true, false}
use mathlib.Core.List.{List, [], ◌∷◌}
use lib.ListN.{length, take, drop}
use lib.Pow.{pow_pos}
use Rattle.bits.specs.Bits.{bits, val, all_zero}
use Rattle.bits.proofs.Value.{val-bits, length-bits, all_zero-val}
use Rattle.content.specs.Packing.{zeros}

pub all_zero-zeros : (n : ℕ) → all_zero (zeros n) ≡ true
unfolding all_zero
all_zero-zeros zero = refl
all_zero-zeros (suc n) = all_zero-zeros n

-- bits that are all zero are known by their number
pub zeros_of : (l : List Bool) → all_zero l ≡ true → l ≡ zeros (length l)
unfolding all_zero
zeros_of [] h = refl
zeros_of (true ∷ l) h = cc
zeros_of (false ∷ l) h = ap (λ (m : List Bool). false ∷ m) (zeros_of l h)

pub bits-zero : (w : ℕ) → bits w 0 ≡ zeros w
bits-zero w =
    let z : val (bits w 0) ≡ 0 = val-bits w 0 ∙ mod-eq_of_lt (pow_pos w) in
    zeros_of (bits w 0) (rw (all_zero-val, z)) ∙ ap zeros (length-bits w 0)

pub take-zeros : (k m : ℕ) → k ≤ m → take k (zeros m) ≡ zeros k
take-zeros zero m h = refl
take-zeros (suc k) zero h = absurd (omega arith)
take-zeros (suc k) (suc m) h = ap (λ (l : List Bool). false ∷ l) (take-zeros k m (omega arith))

pub all_zero-drop : (k : ℕ) (l : List Bool) → all_zero l ≡ true → all_zero (drop k l) ≡ true
unfolding all_zero
all_zero-drop zero l h = h
all_zero-drop (suc k) [] h = refl
all_zero-drop (suc k) (true ∷ l) h = cc
all_zero-drop (suc k) (false ∷ l) h = all_zero-drop k l h
