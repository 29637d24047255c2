-- The contents of later groups, put one before the other.
use Prim.Native.Nat.{ℕ, zero, suc, ◌+◌, ◌*◌, ◌≤◌}
use native.Mathlib.Omega.{arith}
use mathlib.Core.Path.{◌≡◌, refl, sym, ap, ◌∙◌}
use mathlib.Core.Bool.{Bool}
use mathlib.Core.List.{List, [], ◌∷◌, ◌++◌}
use lib.ListN.{length, take, length-append}
use lib.Seq.{length-take-le, take-append-add, take-take}
use Rattle.bits.specs.Bits.{bits}
use Rattle.bits.specs.Fields.{flat}
use Rattle.bits.proofs.Value.{length-bits}
use Rattle.content.specs.declared.content.Content.{Content}
use Rattle.content.specs.Packing.{group_bits}
use Rattle.content.specs.Halves.{bits_of}
use Rattle.content.proofs.Halves.{length-bits_of, bits_of-content_of}
use Rattle.assembler.specs.Joining.{group_before, put_before}

-- one content before n bits of others
group_before_lem : (others : Content) (v n : ℕ) (contents : List ℕ) → n ≤ 100 → take n (bits_of others) ≡ flat group_bits contents
    → take (group_bits + n) (bits_of (group_before v others)) ≡ flat group_bits (v ∷ contents)
unfolding group_before flat
group_before_lem others v n contents h e =
    let front = bits group_bits v in
    let behind = take 100 (bits_of others) in
    let size : length (front ++ behind) ≡ 128 = omega (arith, length-append front behind, length-bits group_bits v, length-take-le 100 (bits_of others) (omega (arith, length-bits_of others))) in
    ap (take (group_bits + n)) (bits_of-content_of (front ++ behind) size)
    ∙ ap (λ (m : ℕ). take (m + n) (front ++ behind)) (sym (length-bits group_bits v))
    ∙ take-append-add front behind n
    ∙ ap (λ (l : List Bool). front ++ l) (take-take n 100 (bits_of others) h ∙ e)

-- the contents in use, and the last one behind them
pub put-before : (start : Content) (count a b c content : ℕ) → count ≤ 3
    → take (group_bits * (count + 1)) (bits_of (put_before count 0 a (put_before count 1 b (put_before count 2 c (group_before content start)))))
    ≡ flat group_bits (take count (a ∷ b ∷ c ∷ []) ++ content ∷ [])
unfolding put_before flat
put-before start count a b c content h =
    let one = group_before_lem start content 0 [] (omega arith) refl in
    by_count count h one
  where
    by_count : (n : ℕ) → n ≤ 3 → take 28 (bits_of (group_before content start)) ≡ flat group_bits (content ∷ [])
        → take (group_bits * (n + 1)) (bits_of (put_before n 0 a (put_before n 1 b (put_before n 2 c (group_before content start))))) ≡ flat group_bits (take n (a ∷ b ∷ c ∷ []) ++ content ∷ [])
    by_count zero h one = one
    by_count (suc zero) h one = group_before_lem (group_before content start) a 28 (content ∷ []) (omega arith) one
    by_count (suc (suc zero)) h one =
        group_before_lem (group_before b (group_before content start)) a 56 (b ∷ content ∷ []) (omega arith)
        (group_before_lem (group_before content start) b 28 (content ∷ []) (omega arith) one)
    by_count (suc (suc (suc zero))) h one =
        group_before_lem (group_before b (group_before c (group_before content start))) a 84 (b ∷ c ∷ content ∷ []) (omega arith)
        (group_before_lem (group_before c (group_before content start)) b 56 (c ∷ content ∷ []) (omega arith)
        (group_before_lem (group_before content start) c 28 (content ∷ []) (omega arith) one))
    by_count (suc (suc (suc (suc k)))) h one = absurd (omega arith)
