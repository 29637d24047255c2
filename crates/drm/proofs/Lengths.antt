-- What the length of a unit says of the number of its user words, whatever the unit holds.
use Prim.Native.Nat.{ℕ, ◌+◌, ◌-◌, ◌*◌, ◌/◌, ◌%◌, ◌≤◌}
use native.Mathlib.Omega.{arith}
use mathlib.Core.Path.{◌≡◌, refl, sym, ap, ◌∙◌}
use mathlib.Core.Bool.{Bool, true, false}
use mathlib.Core.List.{List}
use lib.ListN.{length}
use lib.Dec.{eqb, leb}
use borrow.Author.Tests.{eq-eqb, eqb-true, eqb-false, leb-true}
use Rattle.bits.specs.Fields.{flat}
use Rattle.std.specs.Prelude.{Ok}
use Rattle.bits.proofs.Choice.{chosen, passed_over}
use Rattle.bits.proofs.Fields.{length-flat}
use Rattle.refusal.specs.declared.Refusal.TheVariants.{OtherKind, Reserved}
use Rattle.refusal.proofs.Checks.{neither, passed}
use Rattle.crc.specs.Block.{payload}
use Rattle.crc.proofs.Blocks.{length-payload}
use Rattle.drm.specs.declared.DataUnit.{DataUnit}
use Rattle.drm.specs.declared.Reading.{Reading}
use Rattle.drm.specs.Format.{rfu_in, alert_c}
use Rattle.drm.specs.Payload.{start, tmchi, ua_flag, aid, header, system_count, system_at, words_at, count_from, unit_of}
use Rattle.drm.specs.Read.{test_fields, test_words, test_payload, test_unit, taken, read_unit}
use Rattle.drm.proofs.Body.{words-fit}
use Rattle.drm.proofs.Front.{flag_small}
use Rattle.drm.proofs.Whole.{accepted}

module _ (s : List ℕ) (room n : ℕ) (u : DataUnit) (e : read_unit s room ≡ Ok (record { unit = u; count = n })) where
  abbrev l : List Bool
  l = flat 8 (payload s)

  got : (test_unit s room ≡ Ok tt) × (taken l ≡ record { unit = u; count = n })
  unfolding read_unit
  got =
      let both = neither (test_unit s room) (Ok (taken l)) (record { unit = u; count = n }) e in
      (both.0.1, cc both.1)

  bits_of : length l ≡ (length s - 2) * 8
  bits_of = length-flat 8 (payload s) ∙ ap (λ (m : ℕ). m * 8) (length-payload s)

  tests : (test_fields (start l) (aid l) (header l) ≡ Ok tt) × (test_words (words_at l) l room ≡ Ok tt)
  unfolding test_payload
  tests =
      let both = neither _ _ tt (accepted s room got.0).1 in
      (both.0.1, both.1)

  fit : (words_at l ≤ length l) × (count_from (words_at l) l ≤ room) × ((length l - words_at l) % 37 ≤ 7)
  fit = words-fit (words_at l) l room tests.1

  count : (length l - words_at l) / 37 ≡ n
  unfolding taken
  count = ap (λ (r : Reading). r.count) got.1

  same-tmchi : tmchi l ≡ u.tmchi
  unfolding taken unit_of
  same-tmchi = ap (λ (r : Reading). r.unit.tmchi) got.1

  -- a header has a system word
  some : tmchi l ≤ system_count l
  unfolding test_fields
  some =
      let p = passed (eqb (rfu_in (start l)) 0) Reserved _ tt tests.0 in
      let q = passed (eqb (aid l) alert_c) OtherKind _ tt p.1 in
      leb-true (tmchi l) (system_count l) (passed (leb (tmchi l) (system_count l)) Reserved (Ok tt) tt q.1).0

  bare_at : tmchi l ≡ 0 → words_at l ≡ 6
  unfolding words_at
  bare_at z = chosen _ _ _ (eq-eqb (tmchi l) 0 z)

  -- without a header
  pub bare-count : u.tmchi ≡ 0 → (((length s - 2) * 8 - 6) / 37 ≡ n) × (((length s - 2) * 8 - 6) % 37 ≤ 7)
  bare-count z =
      let six = bare_at (same-tmchi ∙ z) in
      let left : length l - words_at l ≡ (length s - 2) * 8 - 6 = omega (arith, six, bits_of) in
      (ap (λ (m : ℕ). m / 37) (sym left) ∙ count, omega (arith, ap (λ (m : ℕ). m % 37) left, fit.2))

  -- nine bytes are no unit
  pub not_nine : length s ≡ 9 → ⊥
  unfolding words_at
  not_nine nine = by (eqb (tmchi l) 0) refl
    where
      by : (t : Bool) → eqb (tmchi l) 0 ≡ t → ⊥
      by true z =
          let left : length l - words_at l ≡ 50 = omega (arith, bare_at (eqb-true (tmchi l) 0 z), bits_of, nine) in
          omega (arith, ap (λ (m : ℕ). m % 37) left, fit.2)
      by false z =
          let at : words_at l ≡ system_at l + system_count l * 16 = passed_over _ _ _ z in
          let ua = flag_small l (omega (arith, bits_of, nine)) in
          let one : 1 ≤ system_count l = omega (arith, some, eqb-false (tmchi l) 0 z) in
          let few : ua_flag l + system_count l ≤ 1 = omega (arith, at, fit.0, bits_of, nine) in
          let left : length l - words_at l ≡ 8 = omega (arith, at, ua, one, few, bits_of, nine) in
          omega (arith, ap (λ (m : ℕ). m % 37) left, fit.2)
