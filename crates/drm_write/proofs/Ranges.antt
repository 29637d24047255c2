-- What the writer's test of ranges says, part by part.
use Prim.Native.Nat.{ℕ, ◌≤◌, ◌<◌}
use native.Mathlib.Omega.{arith}
use mathlib.Core.Path.{◌≡◌, refl, sym, ap, ◌∙◌}
use mathlib.Core.Bool.{Bool, true, false, ◌&&◌, ◌||◌, cond}
use lib.Dec.{leb, ltb, eqb, lit≤}
use borrow.Author.Tests.{leb-true, leb-false, le-leb, lt-leb, eqb-true, eqb-false, eq-eqb, ne_eqb, ltb-true, lt-ltb}
use lib.IntN.{ℤ, pos, negsuc, nat_abs}
use Rattle.std.specs.Prelude.{is_some}
use Rattle.bits.specs.Fields.{fits}
use Rattle.bits.proofs.Choice.{and_left, and_right, chosen, passed_over}
use Rattle.drm.specs.declared.DataUnit.{DataUnit}
use Rattle.drm.specs.Format.{start_format, header_format}
use Rattle.lto.specs.Offset.{lto_field}
use Rattle.drm_write.specs.Allowed.{Bare, Headed}
use Rattle.drm_write.specs.Write.{start_values, offset, header_values, bare_fits, headed_fits, header_fits, fields_fit, front_width, unit_length, unit_fits}
use Rattle.lto.proofs.Ranges.{field_near, near_field, value_small}

zero_lto : (z : ℤ) → nat_abs z ≡ 0 → z ≡ pos 0
zero_lto (pos n) e = cc
zero_lto (negsuc n) e = absurd (omega arith)

either : (t : Bool) → (6 ≤ cond t 6 32) × (cond t 6 32 ≤ 32)
either true = (lit≤ tt, lit≤ tt)
either false = (lit≤ tt, lit≤ tt)

pub front_bound : (u : DataUnit) → (6 ≤ front_width u) × (front_width u ≤ 32)
unfolding front_width
front_bound u = either (eqb u.tmchi 0)

-- more than 27 user words make a unit too long
pub too_many : (u : DataUnit) (n : ℕ) (t : Bool) → t && leb n 27 ≡ false → t && leb (unit_length u n) 128 ≡ false
too_many u n true e = lt-leb (unit_length u n) 128 (omega (arith, leb-false n 27 e, (front_bound u).0))
too_many u n false e = refl

-- a word that is not in use is 0
unused : (k m v : ℕ) → leb k m || eqb v 0 ≡ true → m < k → v ≡ 0
unused k m v e h = eqb-true v 0 (sym (ap (λ (t : Bool). t || eqb v 0) (lt-leb k m h)) ∙ e)

in_use : (k m v : ℕ) → (m < k → v ≡ 0) → leb k m || eqb v 0 ≡ true
in_use k m v h = by (leb k m) refl
  where
    by : (t : Bool) → leb k m ≡ t → t || eqb v 0 ≡ true
    by true e = refl
    by false e = eq-eqb v 0 (h (leb-false k m e))

-- without a header
pub bare_parts : (u : DataUnit) (n : ℕ) → bare_fits u n ≡ true → Bare u n
unfolding bare_fits
bare_parts u n e =
    let a = eqb u.services 0 in
    let b = a && eqb u.country 0 in
    let c = b && eqb u.ecc 0 in
    let d = c && eqb (nat_abs u.lto) 0 in
    let f = d && eqb u.system 0 in
    let g = f && eqb u.first 0 in
    let h = g && eqb u.second 0 in
    let i = h && eqb u.third 0 in
    let ei = and_left i (leb 1 n) e in
    let eh = and_left h (eqb u.third 0) ei in
    let eg = and_left g (eqb u.second 0) eh in
    let ef = and_left f (eqb u.first 0) eg in
    let ed = and_left d (eqb u.system 0) ef in
    let ec = and_left c (eqb (nat_abs u.lto) 0) ed in
    let eb = and_left b (eqb u.ecc 0) ec in
    record {
      services = eqb-true u.services 0 (and_left a (eqb u.country 0) eb);
      country = eqb-true u.country 0 (and_right a (eqb u.country 0) eb);
      ecc = eqb-true u.ecc 0 (and_right b (eqb u.ecc 0) ec);
      lto = zero_lto u.lto (eqb-true (nat_abs u.lto) 0 (and_right c (eqb (nat_abs u.lto) 0) ed));
      system = eqb-true u.system 0 (and_right d (eqb u.system 0) ef);
      first = eqb-true u.first 0 (and_right f (eqb u.first 0) eg);
      second = eqb-true u.second 0 (and_right g (eqb u.second 0) eh);
      third = eqb-true u.third 0 (and_right h (eqb u.third 0) ei);
      some = leb-true 1 n (and_right i (leb 1 n) e);
    }

bare-fits : (u : DataUnit) (n : ℕ) → Bare u n → bare_fits u n ≡ true
unfolding bare_fits
bare-fits u n b = rw (b.services, b.country, b.ecc, b.lto, b.system, b.first, b.second, b.third) (le-leb 1 n b.some)

-- with one
pub headed_parts : (u : DataUnit) → headed_fits u ≡ true → Headed u
unfolding headed_fits
headed_parts u e =
    let a = ltb u.services 16 in
    let b = a && ltb u.country 16 in
    let c = b && is_some (lto_field u.lto) in
    let d = c && leb 1 u.system in
    let f = d && leb u.system 3 in
    let g = f && (leb 2 u.system || eqb u.second 0) in
    let eg = and_left g (leb 3 u.system || eqb u.third 0) e in
    let ef = and_left f (leb 2 u.system || eqb u.second 0) eg in
    let ed = and_left d (leb u.system 3) ef in
    let ec = and_left c (leb 1 u.system) ed in
    let eb = and_left b (is_some (lto_field u.lto)) ec in
    record {
      services = ltb-true u.services 16 (and_left a (ltb u.country 16) eb);
      country = ltb-true u.country 16 (and_right a (ltb u.country 16) eb);
      lto = field_near u.lto (and_right b (is_some (lto_field u.lto)) ec);
      some = leb-true 1 u.system (and_right c (leb 1 u.system) ed);
      few = leb-true u.system 3 (and_right d (leb u.system 3) ef);
      second = unused 2 u.system u.second (and_right f (leb 2 u.system || eqb u.second 0) eg);
      third = unused 3 u.system u.third (and_right g (leb 3 u.system || eqb u.third 0) e);
    }

headed-fits : (u : DataUnit) → Headed u → headed_fits u ≡ true
unfolding headed_fits
headed-fits u h =
    rw (
      lt-ltb u.services 16 h.services,
      lt-ltb u.country 16 h.country,
      near_field u.lto h.lto,
      le-leb 1 u.system h.some,
      le-leb u.system 3 h.few,
      in_use 2 u.system u.second h.second,
      in_use 3 u.system u.third h.third,
    )

-- the fields of a header, with or without one
pub record Ranges (u : DataUnit) : Type 0 where
  pub services : u.services < 16
  pub country : u.country < 16
  pub lto : nat_abs u.lto < 32
  pub system : u.system ≤ 3

header_ranges : (u : DataUnit) (n : ℕ) → header_fits u n ≡ true → Ranges u
unfolding header_fits
header_ranges u n e = by (eqb u.tmchi 0) refl
  where
    by : (t : Bool) → eqb u.tmchi 0 ≡ t → Ranges u
    by true z =
        let b = bare_parts u n (sym (chosen _ _ _ z) ∙ e) in
        record { services = omega (arith, b.services); country = omega (arith, b.country); lto = omega (arith, ap nat_abs b.lto); system = omega (arith, b.system) }
    by false z =
        let h = headed_parts u (sym (passed_over _ _ _ z) ∙ e) in
        record { services = h.services; country = h.country; lto = h.lto; system = h.few }

module _ (u : DataUnit) (n : ℕ) (fit : unit_fits u n ≡ true) where
  fields_part : fields_fit u n ≡ true
  unfolding unit_fits
  fields_part = and_left (fields_fit u n) (leb (unit_length u n) 128) fit

  fields : (ltb u.tmchi 2 ≡ true) × (ltb u.id 16 ≡ true) × (header_fits u n ≡ true)
  unfolding fields_fit
  fields =
      let a = and_left (ltb u.tmchi 2 && ltb u.id 16) (header_fits u n) fields_part in (
        and_left (ltb u.tmchi 2) (ltb u.id 16) a,
        and_right (ltb u.tmchi 2) (ltb u.id 16) a,
        and_right (ltb u.tmchi 2 && ltb u.id 16) (header_fits u n) fields_part,
      )

  pub short : unit_length u n ≤ 128
  unfolding unit_fits
  short = leb-true (unit_length u n) 128 (and_right (fields_fit u n) (leb (unit_length u n) 128) fit)

  pub few_words : n ≤ 27
  few_words = omega (arith, short, (front_bound u).0)

  pub header_part : header_fits u n ≡ true
  header_part = fields.2

  pub tmchi_small : u.tmchi < 2
  tmchi_small = ltb-true u.tmchi 2 fields.0

  pub id_small : u.id < 16
  id_small = ltb-true u.id 16 fields.1

  pub bare_of : u.tmchi ≡ 0 → Bare u n
  unfolding header_fits
  bare_of z = bare_parts u n (sym (chosen _ _ _ (eq-eqb u.tmchi 0 z)) ∙ fields.2)

  pub headed-of : u.tmchi ≡ 1 → Headed u
  unfolding header_fits
  headed-of z = headed_parts u (sym (passed_over _ _ _ (ne_eqb u.tmchi 0 (λ e. omega arith))) ∙ fields.2)

  pub ranges : Ranges u
  ranges = header_ranges u n fields.2

  pub start_fits : fits start_format (start_values u) ≡ true
  unfolding fits
  start_fits = simp (fields.0, fields.1)

  pub header-fits : u.ecc < 256 → fits header_format (header_values u) ≡ true
  unfolding fits
  header-fits ecc =
      let r = ranges in
      let m : u.system < 4 = omega (arith, r.system) in
      simp (lt-ltb u.services 16 r.services, lt-ltb u.country 16 r.country, lt-ltb u.ecc 256 ecc, lt-ltb (offset u) 64 (value_small u.lto), lt-ltb u.system 4 m)

-- and so the tests hold of every unit that the rules allow
pub unit_allowed : (u : DataUnit) (n : ℕ) → u.tmchi < 2 → u.id < 16 → (u.tmchi ≡ 0 → Bare u n) → (u.tmchi ≡ 1 → Headed u) → unit_length u n ≤ 128 → unit_fits u n ≡ true
unfolding unit_fits fields_fit header_fits
unit_allowed u n t d b h l = rw (lt-ltb u.tmchi 2 t, lt-ltb u.id 16 d, by (eqb u.tmchi 0) refl, le-leb (unit_length u n) 128 l)
  where
    by : (t : Bool) → eqb u.tmchi 0 ≡ t → cond t (bare_fits u n) (headed_fits u) ≡ true
    by true z = bare-fits u n (b (eqb-true u.tmchi 0 z))
    by false z = headed-fits u (h (omega (arith, t, eqb-false u.tmchi 0 z)))
