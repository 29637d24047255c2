-- The fields of a payload that was written, read back.
use Prim.Native.Nat.{ℕ, zero, suc, ◌+◌, ◌*◌, ◌^◌, ◌≤◌, ◌<◌}
use native.Mathlib.Omega.{arith}
use mathlib.Core.Path.{◌≡◌, refl, sym, ap, ap₂, ◌∙◌}
use mathlib.Core.Bool.{Bool, true, false}
use mathlib.Core.List.{List, [], ◌∷◌, ◌++◌, append_assoc}
use lib.ListN.{length, take, drop, get_or}
use lib.Seq.{take_at, drop_at, drop-drop, length-take-le}
use lib.IntN.{ℤ, nat_abs}
use Rattle.std.specs.Prelude.{Ok, unwrap_or}
use lib.Dec.{ltb, eqb, lit<}
use borrow.Author.Tests.{eqb-true, ltb-true, le-leb}
use Rattle.bits.specs.Bits.{bit, num, bits, val}
use Rattle.bits.specs.Fields.{flat, words, unpack, pack, fits}
use Rattle.bits.specs.Overlay.{stretch}
use Rattle.bits.proofs.Choice.{and_left, chosen, passed_over}
use Rattle.bits.proofs.Value.{length-bits}
use Rattle.bits.proofs.Fields.{words_front}
use Rattle.bits.proofs.Formats.{length-pack, unpack-bits, unpack-pack}
use Rattle.drm.specs.declared.DataUnit.{DataUnit}
use Rattle.drm.specs.Format.{start_format, tmchi_in, header_format, system_in, alert_c}
use Rattle.lto.specs.Offset.{lto_field}
use Rattle.lto.proofs.WayBack.{value_back}
use Rattle.drm.specs.Payload.{start, tmchi, ua_flag, aid, header_at, header_bits, header, system_count, system_at, system_words, words_at, unit_of}
use Rattle.drm.specs.Read.{test_fields}
use Rattle.drm_write.specs.Allowed.{Bare, Headed, Typed}
use Rattle.drm_write.specs.Write.{start_values, header_values, system_fields, front_width, lead, front_bits}

below_take : (m k : ℕ) (xs : List ℕ) → 0 < m → ((i : ℕ) → get_or xs i 0 < m) → (i : ℕ) → get_or (take k xs) i 0 < m
below_take m zero xs p h i = p
below_take m (suc k) [] p h i = p
below_take m (suc k) (x ∷ xs) p h zero = h 0
below_take m (suc k) (x ∷ xs) p h (suc i) = below_take m k xs p (λ j. h (suc j)) i

-- the words in use come back, and the others are 0
field_back : (m a b c : ℕ) → 1 ≤ m → m ≤ 3 → (m < 2 → b ≡ 0) → (m < 3 → c ≡ 0)
    → (get_or (take m (a ∷ b ∷ c ∷ [])) 0 0 ≡ a) × (get_or (take m (a ∷ b ∷ c ∷ [])) 1 0 ≡ b) × (get_or (take m (a ∷ b ∷ c ∷ [])) 2 0 ≡ c)
field_back zero a b c h g e f = absurd (omega arith)
field_back (suc zero) a b c h g e f = (refl, sym (e (omega arith)), sym (f (omega arith)))
field_back (suc (suc zero)) a b c h g e f = (refl, refl, sym (f (omega arith)))
field_back (suc (suc (suc zero))) a b c h g e f = (refl, refl, refl)
field_back (suc (suc (suc (suc m)))) a b c h g e f = absurd (omega arith)

-- what is read of a payload
pub record Back (u : DataUnit) (l : List Bool) : Type 0 where
  pub start_back : start l ≡ start_values u
  pub aid_back : aid l ≡ alert_c
  pub header_back : header l ≡ header_values u
  pub system_back : system_words l ≡ take u.system (system_fields u)
  pub lead_back : words_at l ≡ lead u
  pub order : u.tmchi ≤ u.system
  pub fields_back : (get_or (take u.system (system_fields u)) 0 0 ≡ u.first) × (get_or (take u.system (system_fields u)) 1 0 ≡ u.second) × (get_or (take u.system (system_fields u)) 2 0 ≡ u.third)

module _ (u : DataUnit) (s : fits start_format (start_values u) ≡ true) (h : fits header_format (header_values u) ≡ true) where
  start-length : length (pack start_format (start_values u)) ≡ 6
  start-length = length-pack start_format (start_values u) s

  header-length : length (pack header_format (header_values u)) ≡ 24
  header-length = length-pack header_format (header_values u) h

  -- whatever follows the start
  start_of : (l r : List Bool) → l ≡ pack start_format (start_values u) ++ r → start l ≡ start_values u
  start_of l r e =
      ap (λ (x : List Bool). unpack start_format (take 6 x)) e
      ∙ ap (unpack start_format) (take_at (pack start_format (start_values u)) r 6 start-length)
      ∙ unpack-pack start_format (start_values u) s

  -- without a header
  module _ (n : ℕ) (z : eqb u.tmchi 0 ≡ true) (b : Bare u n) (r : List Bool) where
    abbrev bl : List Bool
    bl = front_bits u ++ r

    bare-start : start bl ≡ start_values u
    unfolding front_bits
    bare-start = start_of bl r (ap (λ (f : List Bool). f ++ r) (chosen _ _ _ z))

    bare-none : eqb (tmchi bl) 0 ≡ true
    bare-none = ap (λ (f : List ℕ). eqb (tmchi_in f) 0) bare-start ∙ z

    bare_flag : ua_flag bl ≡ 0
    unfolding ua_flag
    bare_flag = chosen _ _ _ bare-none

    bare-aid : aid bl ≡ alert_c
    unfolding aid
    bare-aid = chosen _ _ _ (ap (λ (m : ℕ). eqb m 0) bare_flag)

    bare-header : header bl ≡ header_values u
    unfolding header_bits lto_field
    bare-header =
        ap (unpack header_format) (chosen _ _ _ bare-none)
        ∙ unpack-bits header_format 0
        ∙ sym (ap₂ (λ (a : ℕ) (l : List ℕ). a ∷ l) b.services
        (ap₂ (λ (a : ℕ) (l : List ℕ). a ∷ l) b.country
        (ap₂ (λ (a : ℕ) (l : List ℕ). a ∷ l) b.ecc
        (ap₂ (λ (a m : ℕ). a ∷ m ∷ []) (ap (λ (z : ℤ). unwrap_or (lto_field z) 0) b.lto) b.system))))

    bare-system : system_words bl ≡ take u.system (system_fields u)
    unfolding words
    bare-system =
        ap (λ (m : ℕ). words 16 m (drop (system_at bl) bl)) (ap system_in bare-header ∙ b.system)
        ∙ sym (ap (λ (m : ℕ). take m (system_fields u)) b.system)

    bare-lead : words_at bl ≡ lead u
    unfolding words_at front_width
    bare-lead = chosen _ _ _ bare-none ∙ sym (ap₂ (λ (w m : ℕ). w + m * 16) (chosen _ _ _ z) b.system)

    pub bare_back : Back u bl
    bare_back = record {
      start_back = bare-start;
      aid_back = bare-aid;
      header_back = bare-header;
      system_back = bare-system;
      lead_back = bare-lead;
      order = omega (arith, eqb-true u.tmchi 0 z);
      fields_back = (
        ap (λ (m : ℕ). get_or (take m (system_fields u)) 0 0) b.system ∙ sym b.first,
        ap (λ (m : ℕ). get_or (take m (system_fields u)) 1 0) b.system ∙ sym b.second,
        ap (λ (m : ℕ). get_or (take m (system_fields u)) 2 0) b.system ∙ sym b.third,
      );
    }

  -- with one
  module _ (typed : Typed u) (z : eqb u.tmchi 0 ≡ false) (g : Headed u) (t : List Bool) where
    abbrev r : List Bool
    r = flat 16 (take u.system (system_fields u)) ++ t

    abbrev hl : List Bool
    hl = front_bits u ++ r

    fields_fit_lem : (i : ℕ) → get_or (system_fields u) i 0 < 2 ^ 16
    fields_fit_lem zero = typed.first
    fields_fit_lem (suc zero) = typed.second
    fields_fit_lem (suc (suc zero)) = typed.third
    fields_fit_lem (suc (suc (suc i))) = lit< tt

    abbrev after : List Bool
    after = bits 2 0 ++ (pack header_format (header_values u) ++ r)

    split : hl ≡ pack start_format (start_values u) ++ after
    unfolding front_bits
    split =
        let a = pack start_format (start_values u) in
        let b = pack header_format (header_values u) in
        ap (λ (f : List Bool). f ++ r) (passed_over _ _ _ z) ∙ append_assoc a (bits 2 0 ++ b) r ∙ ap (λ (x : List Bool). a ++ x) (append_assoc (bits 2 0) b r)

    headed-start : start hl ≡ start_values u
    headed-start = start_of hl after split

    headed_one : eqb (tmchi hl) 0 ≡ false
    headed_one = ap (λ (f : List ℕ). eqb (tmchi_in f) 0) headed-start ∙ z

    drop_6 : drop 6 hl ≡ after
    drop_6 = ap (drop 6) split ∙ drop_at (pack start_format (start_values u)) after 6 start-length

    drop_8 : drop 8 hl ≡ pack header_format (header_values u) ++ r
    drop_8 = sym (drop-drop 2 6 hl) ∙ ap (drop 2) drop_6 ∙ drop_at (bits 2 0) (pack header_format (header_values u) ++ r) 2 (length-bits 2 0)

    drop_32 : drop 32 hl ≡ r
    drop_32 = sym (drop-drop 24 8 hl) ∙ ap (drop 24) drop_8 ∙ drop_at (pack header_format (header_values u)) r 24 header-length

    second-zero : (x : List Bool) → val (take 1 (drop 1 (bits 2 0 ++ x))) ≡ 0
    unfolding bit num bits val
    second-zero x = refl

    headed_flag : ua_flag hl ≡ 0
    unfolding ua_flag
    headed_flag =
        passed_over _ _ _ headed_one
        ∙ ap (λ (x : List Bool). val (take 1 x)) (sym (drop-drop 1 6 hl) ∙ ap (drop 1) drop_6)
        ∙ second-zero (pack header_format (header_values u) ++ r)

    headed-aid : aid hl ≡ alert_c
    unfolding aid
    headed-aid = chosen _ _ _ (ap (λ (m : ℕ). eqb m 0) headed_flag)

    headed_at : header_at hl ≡ 8
    headed_at = ap (λ (m : ℕ). 8 + m * 16) headed_flag

    headed-header : header hl ≡ header_values u
    unfolding header_bits
    headed-header =
        ap (unpack header_format)
        (passed_over _ _ _ headed_one
        ∙ ap (λ (m : ℕ). stretch m 24 hl) headed_at
        ∙ ap (take 24) drop_8
        ∙ take_at (pack header_format (header_values u)) r 24 header-length)
        ∙ unpack-pack header_format (header_values u) h

    headed-count : system_count hl ≡ u.system
    headed-count = ap system_in headed-header

    headed-system : system_words hl ≡ take u.system (system_fields u)
    headed-system =
        let few = take u.system (system_fields u) in
        ap₂ (λ (m : ℕ) (x : List Bool). words 16 m x) headed-count (ap (λ (m : ℕ). drop (m + 24) hl) headed_at ∙ drop_32)
        ∙ ap (λ (m : ℕ). words 16 m r) (sym (length-take-le u.system (system_fields u) g.few))
        ∙ words_front 16 few t (below_take (2 ^ 16) u.system (system_fields u) (lit< tt) fields_fit_lem)

    headed-lead : words_at hl ≡ lead u
    unfolding words_at front_width
    headed-lead =
        passed_over _ _ _ headed_one
        ∙ ap₂ (λ (a m : ℕ). a + 24 + m * 16) headed_at headed-count
        ∙ sym (ap (λ (w : ℕ). w + u.system * 16) (passed_over _ _ _ z))

    one : u.tmchi < 2
    unfolding fits
    one = ltb-true u.tmchi 2 (and_left (ltb u.tmchi 2) _ s)

    pub headed_back : Back u hl
    headed_back = record {
      start_back = headed-start;
      aid_back = headed-aid;
      header_back = headed-header;
      system_back = headed-system;
      lead_back = headed-lead;
      order = omega (arith, one, g.some);
      fields_back = field_back u.system u.first u.second u.third g.some g.few g.second g.third;
    }

-- the unit comes back from its fields
pub unit_back : (u : DataUnit) (l : List Bool) → Back u l → nat_abs u.lto < 32 → unit_of (start l) (header l) (system_words l) ≡ u
unfolding unit_of
unit_back u l b small =
    let make : ℤ → ℕ → ℕ → ℕ → DataUnit = λ z x y w. record {
      tmchi = u.tmchi;
      id = u.id;
      services = u.services;
      country = u.country;
      ecc = u.ecc;
      lto = z;
      system = u.system;
      first = x;
      second = y;
      third = w;
    } in
    let some = take u.system (system_fields u) in
    ap₂ (λ (f g : List ℕ). unit_of f g (system_words l)) b.start_back b.header_back
    ∙ ap (unit_of (start_values u) (header_values u)) b.system_back
    ∙ ap₂ (λ (z : ℤ) (x : ℕ). make z x (get_or some 1 0) (get_or some 2 0)) (value_back u.lto small) b.fields_back.0
    ∙ ap₂ (λ (y w : ℕ). make u.lto u.first y w) b.fields_back.1 b.fields_back.2

-- and no field of it is refused
pub fields_pass : (u : DataUnit) (l : List Bool) → Back u l → test_fields (start l) (aid l) (header l) ≡ Ok tt
unfolding test_fields
fields_pass u l b =
    ap₂ (λ (f : List ℕ) (a : ℕ). test_fields f a (header l)) b.start_back b.aid_back
    ∙ ap (test_fields (start_values u) alert_c) b.header_back
    ∙ chosen _ _ _ (le-leb u.tmchi u.system b.order)
