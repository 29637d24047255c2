-- The bits before the user words, as the numbers that the code makes of them.
use Prim.Native.Nat.{ℕ, ◌+◌, ◌-◌, ◌*◌, ◌/◌, ◌^◌, ◌≤◌, ◌<◌}
use native.Mathlib.Omega.{arith}
use mathlib.Core.Path.{◌≡◌, refl, sym, ap, ap₂, ◌∙◌}
use mathlib.Core.Bool.{Bool, true, false}
use mathlib.Core.List.{List, [], ◌∷◌, ◌++◌}
use lib.ListN.{length, take, length-append}
use lib.Dec.{eqb, lit<}
use borrow.Author.Tests.{eq-eqb, ne_eqb, ltb-true, lt-ltb}
use Rattle.bits.specs.Bits.{bits, val}
use Rattle.bits.specs.Fields.{flat, pack, fits}
use Rattle.bits.proofs.Choice.{and_left, chosen, passed_over}
use Rattle.bits.proofs.Value.{length-bits, val-append, val-bits_lt, bits-val, take-bits}
use Rattle.bits.proofs.Fields.{length-flat, take-flat}
use Rattle.bits.proofs.Formats.{length-pack, val-pack}
use Rattle.drm.specs.declared.DataUnit.{DataUnit}
use Rattle.drm.specs.Format.{start_format, header_format}
use Rattle.drm_write.specs.Write.{start_values, offset, header_values, system_fields, front_width, front_bits, laid, payload_bits}

module _ (u : DataUnit) (s : fits start_format (start_values u) ≡ true) (h : fits header_format (header_values u) ≡ true) where
  start-length : length (pack start_format (start_values u)) ≡ 6
  start-length = length-pack start_format (start_values u) s

  header-length : length (pack header_format (header_values u)) ≡ 24
  header-length = length-pack header_format (header_values u) h

  abbrev after : List Bool
  after = bits 2 0 ++ pack header_format (header_values u)

  after-length : length after ≡ 26
  after-length = length-append (bits 2 0) (pack header_format (header_values u)) ∙ ap₂ (λ (a b : ℕ). a + b) (length-bits 2 0) header-length

  one : u.tmchi < 2
  unfolding fits
  one = ltb-true u.tmchi 2 (and_left _ _ s)

  pub bare_number : u.tmchi ≡ 0 → u.id ≡ val (front_bits u)
  unfolding front_bits
  bare_number z =
      let n = val-pack start_format (start_values u) s in
      let e : u.id ≡ val (pack start_format (start_values u)) = omega (arith, n) in
      e ∙ sym (ap val (chosen _ _ _ (eq-eqb u.tmchi 0 z)))

  pub headed_number : (u.tmchi ≡ 0 → ⊥)
      → 0x80000000 + u.id * 0x4000000 + u.services * 0x100000 + u.country * 0x10000 + u.ecc * 0x100 + offset u * 4 + u.system ≡ val (front_bits u)
  unfolding front_bits
  headed_number z =
      let a = pack start_format (start_values u) in
      let b = pack header_format (header_values u) in
      let tmchi : u.tmchi ≡ 1 = omega (arith, one, z) in
      let whole : val (a ++ after) ≡ val a * 2 ^ 26 + (0 * 2 ^ 24 + val b) =
      val-append a after
      ∙ ap₂ (λ (m n : ℕ). val a * 2 ^ m + n) after-length
      (val-append (bits 2 0) b ∙ ap₂ (λ (m n : ℕ). m * 2 ^ n + val b) (val-bits_lt 2 0 (lit< tt)) header-length) in
      let e : 0x80000000 + u.id * 0x4000000 + u.services * 0x100000 + u.country * 0x10000 + u.ecc * 0x100 + offset u * 4 + u.system ≡ val (a ++ after) =
      omega (arith, whole, val-pack start_format (start_values u) s, val-pack header_format (header_values u) h) in
      e ∙ sym (ap val (passed_over _ _ _ (ne_eqb u.tmchi 0 z)))

  pub front_length : length (front_bits u) ≡ front_width u
  unfolding front_bits front_width
  front_length = by (eqb u.tmchi 0) refl
    where
      by : (t : Bool) → eqb u.tmchi 0 ≡ t → length (front_bits u) ≡ front_width u
      by true e = ap length (chosen _ _ _ e) ∙ start-length ∙ sym (chosen _ _ _ e)
      by false e =
          ap length (passed_over _ _ _ e)
          ∙ length-append (pack start_format (start_values u)) after
          ∙ ap₂ (λ (a b : ℕ). a + b) start-length after-length
          ∙ sym (passed_over _ _ _ e)

  -- the first m words, by division of all three
  system_number : (m : ℕ) → m ≤ 3 → bits (m * 16) (val (flat 16 (system_fields u)) / 2 ^ (48 - m * 16)) ≡ flat 16 (take m (system_fields u))
  system_number m small =
      let all : m * 16 + (48 - m * 16) ≡ 48 = omega arith in
      sym (take-bits (m * 16) (48 - m * 16) (val (flat 16 (system_fields u))))
      ∙ ap (λ (n : ℕ). take (m * 16) (bits n (val (flat 16 (system_fields u))))) all
      ∙ ap (take (m * 16)) (bits-val (flat 16 (system_fields u)) 48 (length-flat 16 (system_fields u)))
      ∙ take-flat 16 m (system_fields u) small

  -- the payload from what the code has found
  pub laid_out : (ws : List ℕ) (w n x d : ℕ) → u.system ≤ 3 → w ≡ front_width u → n ≡ val (front_bits u) → x ≡ val (flat 16 (system_fields u)) → d ≡ 2 ^ (48 - u.system * 16)
      → laid w n (u.system * 16) (x / d) ws ≡ payload_bits u ws
  unfolding payload_bits
  laid_out ws w n x d small ew en ex ed =
      ap₂ (λ (a b : ℕ). laid a b (u.system * 16) (x / d) ws) ew en
      ∙ ap₂ (λ (a b : ℕ). laid (front_width u) (val (front_bits u)) (u.system * 16) (a / b) ws) ex ed
      ∙ ap₂ (λ (a b : List Bool). a ++ (b ++ (flat 37 ws ++ bits ((front_width u + u.system * 16 + length ws * 37 + 7) / 8 * 8 - (front_width u + u.system * 16 + length ws * 37)) 0)))
      (bits-val (front_bits u) (front_width u) front_length)
      (system_number u.system small)

-- the three words as one number
pub fields_number : (u : DataUnit) → u.first < 65536 → u.second < 65536 → u.third < 65536
    → u.first * 0x100000000 + u.second * 0x10000 + u.third ≡ val (flat 16 (system_fields u))
unfolding flat pack fits
fields_number u a b c =
    let f : fits (16 ∷ 16 ∷ 16 ∷ []) (system_fields u) ≡ true = simp (lt-ltb u.first 65536 a, lt-ltb u.second 65536 b, lt-ltb u.third 65536 c) in
    let n = val-pack (16 ∷ 16 ∷ 16 ∷ []) (system_fields u) f in
    omega (arith, n)
