-- The content bits of a record, from its bytes.
use Prim.Native.Nat.{ℕ, ◌+◌, ◌*◌, ◌/◌, ◌^◌, ◌<◌}
use mathlib.Core.Path.{◌≡◌, sym, ap, ap₂, subst, ◌∙◌}
use mathlib.Core.Bool.{Bool}
use mathlib.Core.List.{List, ◌++◌}
use native.Mathlib.Omega.{arith}
use lib.ListN.{length, take, drop, length-drop}
use lib.Seq.{length-take-le, take-add, drop-drop, take-append-add}
use Rattle.bits.specs.Bits.{bits, val}
use Rattle.bits.specs.Fields.{flat}
use Rattle.bits.proofs.Value.{length-bits, bits-val, take-bits, val_lt}
use Rattle.bits.proofs.Fields.{length-flat, flat_append}
use Rattle.content.specs.Halves.{bits_of}
use Rattle.content.specs.Packing.{longest}
use Rattle.record.specs.Layout.{record_size, content_in}

module _ (r : List ℕ) (long : length r ≡ record_size) where
  length_high : length (flat 8 (take 8 (drop 16 r))) ≡ 64
  length_high = length-flat 8 (take 8 (drop 16 r)) ∙ ap (λ (n : ℕ). n * 8) (length-take-le 8 (drop 16 r) (omega (arith, length-drop 16 r)))

  length_low : length (flat 8 (take 6 (drop 24 r))) ≡ 48
  length_low = length-flat 8 (take 6 (drop 24 r)) ∙ ap (λ (n : ℕ). n * 8) (length-take-le 6 (drop 24 r) (omega (arith, length-drop 24 r)))

  pub low_lt : val (flat 8 (take 6 (drop 24 r))) < 2 ^ 48
  low_lt = subst (λ (n : ℕ). val (flat 8 (take 6 (drop 24 r))) < 2 ^ n) length_low (val_lt (flat 8 (take 6 (drop 24 r))))

  pub content-held : (x y : ℕ) → x ≡ val (flat 8 (take 8 (drop 16 r))) → y ≡ val (flat 8 (take 6 (drop 24 r))) → take longest (bits_of (record { high = x; low = y * 65536 })) ≡ flat 8 (content_in r)
  unfolding bits_of
  content-held x y ex ey =
      let high = flat 8 (take 8 (drop 16 r)) in
      let low = flat 8 (take 6 (drop 24 r)) in
      let first : bits 64 x ≡ high = ap (bits 64) ex ∙ bits-val high 64 length_high in
      let back : y * 65536 / 2 ^ 16 ≡ y = omega arith in
      let second : take 48 (bits (48 + 16) (y * 65536)) ≡ low = take-bits 48 16 (y * 65536) ∙ ap (bits 48) (back ∙ ey) ∙ bits-val low 48 length_low in
      ap (λ (n : ℕ). take (n + 48) (bits 64 x ++ bits 64 (y * 65536))) (sym (length-bits 64 x))
      ∙ take-append-add (bits 64 x) (bits 64 (y * 65536)) 48
      ∙ ap₂ (λ (a d : List Bool). a ++ d) first second
      ∙ sym (flat_append 8 (take 8 (drop 16 r)) (take 6 (drop 24 r)))
      ∙ ap (flat 8) (ap (λ (d : List ℕ). take 8 (drop 16 r) ++ take 6 d) (sym (drop-drop 8 16 r)) ∙ sym (take-add 8 6 (drop 16 r)))
