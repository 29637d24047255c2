-- Taking a word apart and composing it are inverse on every word.
use Prim.Native.Nat.{ℕ, ◌/◌, ◌%◌, ◌^◌, ◌<◌}
use mathlib.Core.Path.{◌≡◌, refl, sym, ap, ap₂, subst, ◌∙◌}
use mathlib.Core.Bool.{Bool, true, false, ◌&&◌, cond}
use mathlib.Core.List.{List, ◌∷◌}
use native.Mathlib.Nat.{mod-eq_of_lt}
use native.Mathlib.Omega.{arith}
use lib.ListN.{length, get_or}
use lib.Dec.{leb, eqb}
use borrow.Author.Tests.{eqb-true, eqb-false, eq-eqb, ne_eqb, lt-leb, le-leb, leb-true, leb-false}
use Rattle.bits.specs.Bits.{bits, val}
use Rattle.bits.specs.Fields.{size, pack, unpack, fits}
use Rattle.bits.proofs.Value.{length-bits, bits-val, val-bits_lt, val_lt}
use Rattle.bits.proofs.Choice.{and_left, and_right}
use Rattle.bits.proofs.Formats.{parts, unpack-bits, pack-unpack, unpack-pack, fits-unpack, length-pack}
use Rattle.std.specs.Prelude.{Ok, Err}
use Rattle.refusal.specs.declared.Refusal.TheVariants.{Unfit}
use Rattle.word.specs.declared.Word.{Word}
use Rattle.word.specs.declared.Word.TheVariants.{Single, First, Later, Tuning, Administration, Index7, Beyond}
use Rattle.word.specs.Format.{limit, head_format, later_format, head_fields, later_fields, flag_t, flag_f, low_x, top_y, head_of}
use Rattle.word.specs.Kind.{kind_of, kind_by, multi_by}
use Rattle.word.specs.Compose.{composed, number_if, single_values, first_values, later_values, is_index}
use Rattle.word.proofs.Fields.{head_fields_parts, later_fields_parts}

-- the fields of a word in a format of 37 bits are in range, and pack to the word
repacked : (ws : List ℕ) → 37 ≡ size ws → (n : ℕ) → n < limit → (t : Bool) (vs : List ℕ) → t ≡ true → vs ≡ unpack ws (bits 37 n) → number_if (t && fits ws vs) (val (pack ws vs)) ≡ Ok n
repacked ws e n small t vs h f =
    let Size-ok = length-bits 37 n ∙ e in
    ap₂ (λ (b : Bool) (us : List ℕ). number_if (b && fits ws us) (val (pack ws us))) h f
    ∙ ap₂ (λ (b : Bool) (m : ℕ). number_if b m) (fits-unpack ws (bits 37 n) Size-ok) (ap val (pack-unpack ws (bits 37 n) Size-ok) ∙ val-bits_lt 37 n small)

pub index_of : (x : ℕ) → x < 8 → (x ≡ 0 → ⊥) → (x ≡ 7 → ⊥) → is_index x ≡ true
unfolding is_index
index_of x l a b = ap₂ (λ (s t : Bool). s && t) (le-leb 1 x (omega arith)) (le-leb x 6 (omega arith))

-- the fields that the two formats share, from their values
first-four : {t t' f f' x y y' : ℕ} {r : List ℕ} → t ≡ t' → f ≡ f' → y ≡ y' → t ∷ f ∷ x ∷ y ∷ r ≡ t' ∷ f' ∷ x ∷ y' ∷ r
first-four a b c = cc

-- with T and F not set, X2..X0 is all that stands above Y
low_three : (n : ℕ) → n < limit → (n / 2 ^ 36 % 2 ≡ 1 → ⊥) → (n / 2 ^ 35 % 2 ≡ 1 → ⊥) → n / 2 ^ 32 ≡ n / 2 ^ 32 % 8
low_three n small t f =
    let q : n / 2 ^ 36 < 2 = omega arith in
    let a = mod-eq_of_lt q in
    let b : n < 2 ^ 36 = omega arith in
    let r : n / 2 ^ 35 < 2 = omega arith in
    let d = mod-eq_of_lt r in
    let g : n < 2 ^ 35 = omega arith in
    let x : n / 2 ^ 32 < 8 = omega arith in
    sym (mod-eq_of_lt x)

module _ (n : ℕ) (small : n < limit) where
  h : List ℕ
  h = parts head_format n

  l : List ℕ
  l = parts later_format n

  -- what is told by a word's first bits, case by case
  taken_apart : (t f z s y : Bool) → eqb (flag_t h) 1 ≡ t → eqb (flag_f h) 1 ≡ f → eqb (low_x h) 0 ≡ z → eqb (low_x h) 7 ≡ s → eqb (top_y h) 1 ≡ y → composed (kind_by n h l) ≡ Ok n
  unfolding kind_by multi_by composed h l
  taken_apart true f z s y et ef ez es ey =
      let t = eqb-true (flag_t h) 1 et in
      let w : n / 2 ^ 36 ≡ 1 = omega arith in
      rw et (ap (λ (b : Bool). number_if b n) (eq-eqb (n / 2 ^ 36) 1 w))
  taken_apart false true z s y et ef ez es ey =
      let t = eqb-false (flag_t h) 1 et in
      let t0 : 0 ≡ flag_t h = omega arith in
      rw (et, ef) (repacked head_format refl n small true (single_values (low_x h) (top_y h) (head_of h)) refl
      (first-four t0 (sym (eqb-true (flag_f h) 1 ef)) refl ∙ sym (unpack-bits head_format n)))
  taken_apart false false true s y et ef ez es ey =
      let t = eqb-false (flag_t h) 1 et in
      let f = eqb-false (flag_f h) 1 ef in
      let z = eqb-true (low_x h) 0 ez in
      let w : n / 2 ^ 32 ≡ 0 = low_three n small t f ∙ z in
      rw (et, ef, ez) (ap (λ (b : Bool). number_if b n) (eq-eqb (n / 2 ^ 32) 0 w))
  taken_apart false false false true y et ef ez es ey =
      let t = eqb-false (flag_t h) 1 et in
      let f = eqb-false (flag_f h) 1 ef in
      let s = eqb-true (low_x h) 7 es in
      let w : n / 2 ^ 32 ≡ 7 = low_three n small t f ∙ s in
      rw (et, ef, ez, es) (ap (λ (b : Bool). number_if b n) (eq-eqb (n / 2 ^ 32) 7 w))
  taken_apart false false false false true et ef ez es ey =
      let t = eqb-false (flag_t h) 1 et in
      let f = eqb-false (flag_f h) 1 ef in
      let t0 : 0 ≡ flag_t h = omega arith in
      let f0 : 0 ≡ flag_f h = omega arith in
      let small-x : low_x h < 8 = omega arith in
      rw (et, ef, ez, es, ey) (repacked head_format refl n small (is_index (low_x h)) (first_values (low_x h) (head_of h)) (index_of (low_x h) small-x (eqb-false (low_x h) 0 ez) (eqb-false (low_x h) 7 es))
      (first-four t0 f0 (sym (eqb-true (top_y h) 1 ey)) ∙ sym (unpack-bits head_format n)))
  taken_apart false false false false false et ef ez es ey =
      let t = eqb-false (flag_t h) 1 et in
      let f = eqb-false (flag_f h) 1 ef in
      let y = eqb-false (top_y h) 1 ey in
      let t0 : 0 ≡ flag_t h = omega arith in
      let f0 : 0 ≡ flag_f h = omega arith in
      let y0 : 0 ≡ top_y h = omega arith in
      let small-x : low_x h < 8 = omega arith in
      rw (et, ef, ez, es, ey) (repacked later_format refl n small (is_index (low_x h)) (later_values (low_x l) (get_or l 4 0) (get_or l 5 0) (get_or l 6 0)) (index_of (low_x h) small-x (eqb-false (low_x h) 0 ez) (eqb-false (low_x h) 7 es))
      (first-four t0 f0 y0 ∙ sym (unpack-bits later_format n)))

  -- what is taken apart composes to the same word
  pub parse-compose : composed (kind_of n) ≡ Ok n
  unfolding kind_of h l
  parse-compose =
      ap (λ (b : Bool). composed (cond b (Beyond n) (kind_by n (head_fields n) (later_fields n)))) (lt-leb limit n small)
      ∙ ap₂ (λ (a b : List ℕ). composed (kind_by n a b)) (head_fields_parts n) (later_fields_parts n)
      ∙ taken_apart _ _ _ _ _ refl refl refl refl refl

-- what is composed is a word, and is taken apart to the same kind and fields
from_number : (t : Bool) (m n : ℕ) → number_if t m ≡ Ok n → (t ≡ true) × (m ≡ n)
from_number true m n e = (refl, cc)
from_number false m n e = absurd (cc)

-- the number of fields in range is a word that has these fields
module _ (ws vs : List ℕ) (whole : size ws ≡ 37) (fit : fits ws vs ≡ true) (n : ℕ) (e : val (pack ws vs) ≡ n) where
  long : length (pack ws vs) ≡ 37
  long = length-pack ws vs fit ∙ whole

  word_small : n < limit
  word_small = subst (λ (m : ℕ). m < limit) e (subst (λ (k : ℕ). val (pack ws vs) < 2 ^ k) long (val_lt (pack ws vs)))

  word_fields : unpack ws (bits 37 n) ≡ vs
  word_fields = ap (λ (m : ℕ). unpack ws (bits 37 m)) (sym e) ∙ ap (unpack ws) (bits-val (pack ws vs) 37 long) ∙ unpack-pack ws vs fit

-- the kind of a word from its fields in the two formats
kind_by_lem : (n : ℕ) → n < limit → kind_of n ≡ kind_by n (head_fields n) (later_fields n)
unfolding kind_of
kind_by_lem n small = ap (λ (b : Bool). cond b (Beyond n) (kind_by n (head_fields n) (later_fields n))) (lt-leb limit n small)

-- the two formats share their first four fields
shared_fields : (n : ℕ) → (flag_t (head_fields n) ≡ flag_t (later_fields n)) × (flag_f (head_fields n) ≡ flag_f (later_fields n)) × (low_x (head_fields n) ≡ low_x (later_fields n)) × (top_y (head_fields n) ≡ top_y (later_fields n))
shared_fields n = simp (head_fields_parts, later_fields_parts) (refl, refl, refl, refl)

kind-later : (n : ℕ) (h l : List ℕ) (ci : ℕ) → flag_t h ≡ 0 → flag_f h ≡ 0 → low_x h ≡ ci → top_y h ≡ 0 → eqb ci 0 ≡ false → eqb ci 7 ≡ false → kind_by n h l ≡ Later (low_x l) (get_or l 4 0) (get_or l 5 0) (get_or l 6 0)
unfolding kind_by multi_by
kind-later n h l ci t f x y a b = rw (t, f, x, y, a, b)

index_not : (ci : ℕ) → is_index ci ≡ true → (eqb ci 0 ≡ false) × (eqb ci 7 ≡ false)
unfolding is_index
index_not ci h =
    let a = leb-true 1 ci (and_left (leb 1 ci) (leb ci 6) h) in
    let b = leb-true ci 6 (and_right (leb 1 ci) (leb ci 6) h) in
    (ne_eqb ci 0 (λ e. omega arith), ne_eqb ci 7 (λ e. omega arith))

pub compose-parse : (w : Word) (n : ℕ) → composed w ≡ Ok n → kind_of n ≡ w
unfolding composed kind_by multi_by head_fields later_fields
compose-parse (Single d v hd) n e =
    let vs = single_values d v hd in
    let got = from_number (fits head_format vs) (val (pack head_format vs)) n e in
    kind_by_lem n (word_small head_format vs refl got.0 n got.1)
    ∙ ap (λ (f : List ℕ). kind_by n f (later_fields n)) (word_fields head_format vs refl got.0 n got.1)
compose-parse (First ci hd) n e =
    let vs = first_values ci hd in
    let got = from_number (is_index ci && fits head_format vs) (val (pack head_format vs)) n e in
    let fit = and_right (is_index ci) (fits head_format vs) got.0 in
    let index = index_not ci (and_left (is_index ci) (fits head_format vs) got.0) in
    kind_by_lem n (word_small head_format vs refl fit n got.1)
    ∙ ap (λ (f : List ℕ). kind_by n f (later_fields n)) (word_fields head_format vs refl fit n got.1)
    ∙ simp (index.0, index.1)
compose-parse (Later ci s g c) n e =
    let vs = later_values ci s g c in
    let got = from_number (is_index ci && fits later_format vs) (val (pack later_format vs)) n e in
    let fit = and_right (is_index ci) (fits later_format vs) got.0 in
    let index = index_not ci (and_left (is_index ci) (fits later_format vs) got.0) in
    let fields : later_fields n ≡ vs = word_fields later_format vs refl fit n got.1 in
    let shared = shared_fields n in
    kind_by_lem n (word_small later_format vs refl fit n got.1)
    ∙ kind-later n (head_fields n) (later_fields n) ci (shared.0 ∙ ap flag_t fields) (shared.1 ∙ ap flag_f fields) (shared.2 ∙ ap low_x fields) (shared.3 ∙ ap top_y fields) index.0 index.1
    ∙ ap (λ (f : List ℕ). Later (low_x f) (get_or f 4 0) (get_or f 5 0) (get_or f 6 0)) fields
compose-parse (Tuning m) n e =
    let got = from_number (eqb (m / 2 ^ 36) 1) m n e in
    let top = eqb-true (m / 2 ^ 36) 1 got.0 in
    let same = got.1 in
    let t : n / 2 ^ 36 % 2 ≡ 1 = omega arith in
    kind_by_lem n (omega arith) ∙ ap₂ (kind_by n) (head_fields_parts n) (later_fields_parts n) ∙ rw (eq-eqb _ _ t) (ap Tuning (sym same))
compose-parse (Administration m) n e =
    let got = from_number (eqb (m / 2 ^ 32) 0) m n e in
    let top = eqb-true (m / 2 ^ 32) 0 got.0 in
    let same = got.1 in
    let t : n / 2 ^ 36 % 2 ≡ 0 = omega arith in
    let f : n / 2 ^ 35 % 2 ≡ 0 = omega arith in
    let x : n / 2 ^ 32 % 8 ≡ 0 = omega arith in
    kind_by_lem n (omega arith) ∙ ap₂ (kind_by n) (head_fields_parts n) (later_fields_parts n) ∙ rw (t, f, x) (ap Administration (sym same))
compose-parse (Index7 m) n e =
    let got = from_number (eqb (m / 2 ^ 32) 7) m n e in
    let top = eqb-true (m / 2 ^ 32) 7 got.0 in
    let same = got.1 in
    let t : n / 2 ^ 36 % 2 ≡ 0 = omega arith in
    let f : n / 2 ^ 35 % 2 ≡ 0 = omega arith in
    let x : n / 2 ^ 32 % 8 ≡ 7 = omega arith in
    kind_by_lem n (omega arith) ∙ ap₂ (kind_by n) (head_fields_parts n) (later_fields_parts n) ∙ rw (t, f, x) (ap Index7 (sym same))
compose-parse (Beyond m) n e = absurd (cc)

-- what is composed is a word
pub compose_small : (w : Word) (n : ℕ) → composed w ≡ Ok n → n < limit
unfolding kind_of composed
compose_small w n e = by_size (leb limit n) refl
  where
    by_size : (b : Bool) → leb limit n ≡ b → n < limit
    by_size false l = leb-false limit n l
    by_size true l =
        let k = compose-parse w n e in
        let beyond : kind_of n ≡ Beyond n = ap (λ (t : Bool). cond t (Beyond n) (kind_by n (head_fields n) (later_fields n))) l in
        let r : composed (Beyond n) ≡ Ok n = ap composed (sym beyond ∙ k) ∙ e in
        absurd (cc)

-- and what is refused no word has
pub refused_none : (w : Word) → composed w ≡ Err Unfit → (n : ℕ) → n < limit → kind_of n ≡ w → ⊥
refused_none w r n small k =
    let e = parse-compose n small in
    cc
