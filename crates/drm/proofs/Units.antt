-- The unit in the bits before the check word.
use Prim.Native.Nat.{ℕ, ◌+◌, ◌-◌, ◌*◌, ◌/◌, ◌<◌, ◌≤◌}
use native.Mathlib.Omega.{arith}
use mathlib.Core.Path.{◌≡◌, refl, sym, ap, ap₂, subst, ◌∙◌}
use mathlib.Core.Bool.{Bool, true, false}
use mathlib.Core.List.{List, [], ◌∷◌, ◌++◌}
use lib.ListN.{length, get_or, drop}
use lib.Dec.{eqb, lit<}
use Rattle.bits.specs.Bits.{bits, val}
use Rattle.bits.specs.Fields.{flat, words, unpack}
use Rattle.bits.specs.Overlay.{stretch}
use Rattle.bits.proofs.Choice.{chosen, passed_over}
use Rattle.bits.proofs.Value.{val-bits_lt}
use Rattle.bits.proofs.Fields.{length-flat}
use Rattle.std.specs.Prelude.{Ok}
use Rattle.refusal.proofs.Checks.{neither}
use Rattle.drm.specs.declared.DataUnit.{DataUnit}
use Rattle.drm.specs.declared.Reading.{Reading}
use Rattle.drm.specs.Format.{start_format, header_format}
use Rattle.drm.specs.Payload.{start, tmchi, header_at, header_bits, header, system_count, system_at, system_words, words_at, count_from, unit_of}
use Rattle.drm.specs.Read.{test_payload, taken, words_after}
use Rattle.drm.proofs.Front.{bits_in, start_of, header_of, count_of, flag_small}
use Rattle.drm.proofs.Body.{words-fit}

-- where there are system words, they lie before the user words
system_inside : (l : List Bool) → 48 ≤ length l → words_at l ≤ length l → 0 < system_count l → system_at l + system_count l * 16 ≤ length l
unfolding words_at header_bits
system_inside l long inside some = by (eqb (tmchi l) 0) refl
  where
    by : (t : Bool) → eqb (tmchi l) 0 ≡ t → system_at l + system_count l * 16 ≤ length l
    by true e = absurd (omega (arith, count_of l long, ap val (chosen _ (bits 24 0) (stretch (header_at l) 24 l) e), val-bits_lt 24 0 (lit< tt)))
    by false e = omega (arith, passed_over _ 6 (system_at l + system_count l * 16) e)

module _ (p : List ℕ) (six : 6 ≤ length p) where
  long : 48 ≤ length (flat 8 p)
  long = bits_in p six

  pub system-fits : words_at (flat 8 p) ≤ length (flat 8 p) → (at m : ℕ) → at ≡ header_at (flat 8 p) → m ≡ system_count (flat 8 p)
      → (i : ℕ) → i < 3 → (i < m → at + 24 + m * 16 ≤ length p * 8) × (i < 3) × (at + 24 ≤ 48)
  system-fits inside at m ea em i small = (
    λ some. omega (arith, length-flat 8 p, system_inside (flat 8 p) long inside (omega (arith, em, some))),
    small,
    omega (arith, flag_small (flat 8 p) long),
  )

  pub unit_from : (s h : ℕ) → s ≡ val (stretch 0 6 (flat 8 p)) → h ≡ val (header_bits (flat 8 p))
      → (x y z : ℕ) → let ws = system_words (flat 8 p) in x ≡ get_or ws 0 0 → y ≡ get_or ws 1 0 → z ≡ get_or ws 2 0
      → unit_of (unpack start_format (bits 6 s)) (unpack header_format (bits 24 h)) (x ∷ y ∷ z ∷ []) ≡ unit_of (start (flat 8 p)) (header (flat 8 p)) ws
  unfolding unit_of
  unit_from s h es eh x y z ex ey ez =
      let l = flat 8 p in
      rw (es, eh, start_of l long, header_of l long, ex, ey, ez) refl

-- the user words of a payload that is not refused, from bit at on
pub record Lies (p : List ℕ) (space at : ℕ) : Type 0 where
  pub inside : words_at (flat 8 p) ≤ length (flat 8 p)
  pub in_bytes : at ≤ length p * 8
  pub room : (length p * 8 - at) / 37 ≤ space

pub lies : (p : List ℕ) (space at : ℕ) → at ≡ words_at (flat 8 p) → test_payload (flat 8 p) space ≡ Ok tt → Lies p space at
unfolding test_payload
lies p space at e h =
    let l = flat 8 p in
    let fit = words-fit (words_at l) l space (neither _ _ tt h).1 in
    record {
      inside = fit.0;
      in_bytes = omega (arith, fit.0, length-flat 8 p);
      room = subst (λ (n : ℕ). n ≤ space) (ap₂ (λ (n m : ℕ). (n - m) / 37) (length-flat 8 p) (sym e)) fit.1;
    }

module _ (p : List ℕ) (at : ℕ) (e : at ≡ words_at (flat 8 p)) (u : DataUnit) where
  same_count : (length p * 8 - at) / 37 ≡ count_from (words_at (flat 8 p)) (flat 8 p)
  same_count = ap₂ (λ (n m : ℕ). (n - m) / 37) (sym (length-flat 8 p)) e

  abbrev reading : Reading
  reading = record { unit = u; count = (length p * 8 - at) / 37 }

  pub taken_from : u ≡ unit_of (start (flat 8 p)) (header (flat 8 p)) (system_words (flat 8 p)) → reading ≡ taken (flat 8 p)
  unfolding taken
  taken_from eu = ap₂ (λ (x : DataUnit) (n : ℕ). let r : Reading = record { unit = x; count = n } in r) eu same_count

  -- k cells were lent and hold ws afterwards
  pub words_from : (out : List ℕ) (ws : List ℕ) (k : ℕ) → k ≡ (length p * 8 - at) / 37 → ws ≡ words 37 k (drop at (flat 8 p))
      → ws ++ drop ((length p * 8 - at) / 37) out ≡ words_after (Ok reading) (flat 8 p) out
  unfolding words_after
  words_from out ws k ek ew =
      ap (λ (x : List ℕ). x ++ drop ((length p * 8 - at) / 37) out) (ew ∙ ap₂ (λ (n m : ℕ). words 37 n (drop m (flat 8 p))) ek e)
