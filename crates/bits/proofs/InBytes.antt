-- A field of w bits that has o bits before it and k after it in the n bytes from byte a on.
use Prim.Native.Nat.{ℕ, ◌+◌, ◌-◌, ◌*◌, ◌/◌, ◌%◌, ◌^◌, ◌≤◌}
use native.Mathlib.Omega.{arith}
use mathlib.Core.Path.{◌≡◌, sym, ap, ap₂, ◌∙◌}
use mathlib.Core.Bool.{Bool}
use mathlib.Core.List.{List, ◌++◌}
use lib.ListN.{length, take, drop, length-drop, take-append-drop}
use lib.Seq.{length-take-le}
use borrow.Rule.Slice.PartMut.{put_mid}
use Rattle.bits.specs.Bits.{bits, val}
use Rattle.bits.specs.Fields.{flat}
use Rattle.bits.specs.Overlay.{stretch, overlay}
use Rattle.bits.proofs.Value.{length-bits, bits-val, val_field}
use Rattle.bits.proofs.Stretch.{stretch-within, overlay-within}
use Rattle.bits.proofs.Fields.{length-flat, flat_append, take-flat, drop-flat, flat-words}
use Rattle.bits.proofs.Loading.{low_bytes}
use Rattle.bits.proofs.Replacing.{replaced_by, replaced-overlay}

module _ (s : List ℕ) (a n o w k : ℕ) (inside : a + n ≤ length s) (eight : n * 8 ≡ o + (w + k)) where
  -- the n bytes
  mid : List ℕ
  mid = take n (drop a s)

  length_mid : length mid ≡ n
  unfolding mid
  length_mid = length-take-le n (drop a s) (omega (arith, length-drop a s))

  length-bits_mid : length (flat 8 mid) ≡ n * 8
  length-bits_mid = length-flat 8 mid ∙ ap (λ (m : ℕ). m * 8) length_mid

  bits_mid : flat 8 mid ≡ stretch (a * 8) (n * 8) (flat 8 s)
  unfolding mid
  bits_mid = sym (ap (take (n * 8)) (drop-flat 8 a s (omega arith)) ∙ take-flat 8 n (drop a s) (omega (arith, length-drop a s)))

  pub read_in_bytes : val (flat 8 (take n (drop a s))) / 2 ^ k % 2 ^ w ≡ val (stretch (a * 8 + o) w (flat 8 s))
  unfolding mid
  read_in_bytes =
      sym (val_field (flat 8 mid) o w k (length-bits_mid ∙ eight))
      ∙ ap val (ap (stretch o w) bits_mid ∙ stretch-within (a * 8) (n * 8) o w (flat 8 s) (omega arith))

  -- the bits before, of and after the bytes
  whole : flat 8 (take a s) ++ (flat 8 mid ++ flat 8 (drop n (drop a s))) ≡ flat 8 s
  unfolding mid
  whole =
      sym (flat_append 8 (take a s) (drop a s) ∙ ap (λ (l : List Bool). flat 8 (take a s) ++ l) (ap (flat 8) (sym (take-append-drop n (drop a s))) ∙ flat_append 8 mid (drop n (drop a s))))
      ∙ ap (flat 8) (take-append-drop a s)

  pub written_in_bytes : (v : ℕ) → flat 8 (put_mid a n s (low_bytes n (replaced_by (val (flat 8 (take n (drop a s)))) w k v))) ≡ overlay (a * 8 + o) (bits w v) (flat 8 s)
  unfolding mid
  written_in_bytes v =
      let x = val (flat 8 mid) in
      let y = replaced_by x w k v in
      let before = flat 8 (take a s) in
      let after = flat 8 (drop n (drop a s)) in
      let size = length-bits w v in
      flat_append 8 (take a s) (low_bytes n y ++ drop n (drop a s))
      ∙ ap (λ (l : List Bool). before ++ l) (flat_append 8 (low_bytes n y) (drop n (drop a s)))
      ∙ ap (λ (l : List Bool). before ++ (l ++ after))
      (flat-words 8 n (bits (n * 8) y) (length-bits (n * 8) y)
      ∙ ap (λ (m : ℕ). bits m y) eight
      ∙ replaced-overlay o w k x v
      ∙ ap (overlay o (bits w v)) (bits-val (flat 8 mid) (o + (w + k)) (length-bits_mid ∙ eight)))
      ∙ sym (overlay-within before (flat 8 mid) after o (bits w v) (omega (arith, size, length-bits_mid)))
      ∙ ap₂ (λ (m : ℕ) (l : List Bool). overlay (m + o) (bits w v) l) (length-flat 8 (take a s) ∙ ap (λ (m : ℕ). m * 8) (length-take-le a s (omega arith))) whole

-- the w bits from bit p on, which the eight bytes from byte a on hold
pub read_in_eight : (s : List ℕ) (a p w : ℕ) → a + 8 ≤ length s → a * 8 ≤ p → p + w ≤ a * 8 + 64
    → val (flat 8 (take (a + 8 - a) (drop a s))) / 2 ^ (64 - (p - a * 8) - w) % 2 ^ w ≡ val (stretch p w (flat 8 s))
read_in_eight s a p w inside from to =
    let k = 64 - (p - a * 8) - w in
    let n : a + 8 - a ≡ 8 = omega arith in
    let at : a * 8 + (p - a * 8) ≡ p = omega arith in
    ap (λ (m : ℕ). val (flat 8 (take m (drop a s))) / 2 ^ k % 2 ^ w) n
    ∙ read_in_bytes s a 8 (p - a * 8) w k inside (omega arith)
    ∙ ap (λ (m : ℕ). val (stretch m w (flat 8 s))) at

-- how many bytes hold the w bits from bit p on, and how many bits are left over in the last one
abbrev pub count : ℕ → ℕ → ℕ
count p w = (p % 8 + w + 7) / 8

abbrev pub spare : ℕ → ℕ → ℕ
spare p w = count p w * 8 - p % 8 - w

module _ (s : List ℕ) (p w : ℕ) (inside : p + w ≤ length s * 8) where
  bytes_inside : p / 8 + count p w ≤ length s
  bytes_inside = omega arith

  bits_even : count p w * 8 ≡ p % 8 + (w + spare p w)
  bits_even = omega arith

  place : p / 8 * 8 + p % 8 ≡ p
  place = omega arith

  end : p / 8 + count p w - p / 8 ≡ count p w
  end = omega arith

  pub read_at : val (flat 8 (take (p / 8 + count p w - p / 8) (drop (p / 8) s))) / 2 ^ spare p w % 2 ^ w ≡ val (stretch p w (flat 8 s))
  read_at =
      ap (λ (n : ℕ). val (flat 8 (take n (drop (p / 8) s))) / 2 ^ spare p w % 2 ^ w) end
      ∙ read_in_bytes s (p / 8) (count p w) (p % 8) w (spare p w) bytes_inside bits_even
      ∙ ap (λ (n : ℕ). val (stretch n w (flat 8 s))) place

  -- ys is what stands in the bytes afterwards, n how many the code counts
  pub written_at : (v n : ℕ) (ys : List ℕ) → n ≡ count p w
      → ys ≡ low_bytes (length (take n (drop (p / 8) s))) (replaced_by (val (flat 8 (take n (drop (p / 8) s)))) w (spare p w) v)
      → flat 8 (put_mid (p / 8) n s ys) ≡ overlay p (bits w v) (flat 8 s)
  written_at v n ys e h =
      let size : length (take n (drop (p / 8) s)) ≡ count p w = length-take-le n (drop (p / 8) s) (omega (arith, length-drop (p / 8) s)) ∙ e in
      ap₂ (λ (m : ℕ) (l : List ℕ). flat 8 (put_mid (p / 8) m s l)) e
      (h ∙ ap₂ (λ (m j : ℕ). low_bytes m (replaced_by (val (flat 8 (take j (drop (p / 8) s)))) w (spare p w) v)) size e)
      ∙ written_in_bytes s (p / 8) (count p w) (p % 8) w (spare p w) bytes_inside bits_even v
      ∙ ap (λ (m : ℕ). overlay m (bits w v) (flat 8 s)) place
