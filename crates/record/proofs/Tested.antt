-- A record is well-formed if every byte has zeros where its row says.
use Prim.Native.Nat.{ℕ, zero, suc, ◌+◌, ◌-◌, ◌*◌, ◌≤◌, ◌<◌}
use mathlib.Core.Path.{◌≡◌, refl, sym, ap, ap₂, subst, ◌∙◌}
use mathlib.Core.Bool.{Bool, true, false, cond, not, ◌&&◌, ◌||◌, and-true, and-false}
use mathlib.Core.List.{List}
use native.Mathlib.Omega.{arith}
use lib.ListN.{length, take, drop, get_or, replicate, length-drop}
use lib.Seq.{length-take-le, get_or-take, get_or-drop}
use lib.Dec.{leb, ltb, eqb}
use lib.Bits.{bit_and}
use borrow.Author.Tests.{leb-true, leb-false, ltb-true, ltb-false, eqb-true, eqb-false, le-ltb, eq-eqb, ne_eqb}
use Rattle.bits.specs.Bits.{all_zero}
use Rattle.bits.proofs.Choice.{and_left, and_right}
use Rattle.content.specs.Packing.{group_bits}
use Rattle.report.specs.Record.{content_bytes}
use Rattle.record.specs.Layout.{record_size, is_record, byte_at, groups_in, content_at, content_in}
use Rattle.record.specs.WellFormed.{widths, within, ranges_fit, marked, complete, content_bits, spare_in, rest_fits, well_formed}
use Rattle.record.specs.Zeros.{spares, above, zeros_for, zero_bits, row_of, eight_from, bytes_zero}
use Rattle.record.proofs.Ranges.{all_below, all_below_at, all_below_same, all_below_true, all_below_fails}
use Rattle.record.proofs.Zeros.{Bytes, clear, clear_none, clear_split, clear-all, zero_at, spare_clear, limit, within-clear, all_less, all_less_lem, eight-zero}

-- byte j has zeros where its row says
abbrev byte_zero : List ℕ → ℕ → Bool
byte_zero r j = eqb (bit_and (byte_at r j) (byte_at zero_bits (row_of r * record_size + j))) 0

-- row g of the masks
abbrev row : ℕ → List ℕ
row g = take record_size (drop (g * record_size) zero_bits)

row_at : (g k : ℕ) → k < record_size → get_or (row g) k 0 ≡ byte_at zero_bits (g * record_size + k)
row_at g k h = get_or-take record_size (drop (g * record_size) zero_bits) k 0 h ∙ get_or-drop (g * record_size) zero_bits k 0

free_row : row 0 ≡ replicate record_size 255
unfolding zero_bits zeros_for above spares widths
free_row = refl

used_row : (g : ℕ) → 1 ≤ g → g ≤ 5 → row g ≡ zeros_for g
unfolding zero_bits zeros_for above spares widths
used_row zero h k = absurd (omega arith)
used_row (suc zero) h k = refl
used_row (suc (suc zero)) h k = refl
used_row (suc (suc (suc zero))) h k = refl
used_row (suc (suc (suc (suc zero)))) h k = refl
used_row (suc (suc (suc (suc (suc zero))))) h k = refl
used_row (suc (suc (suc (suc (suc (suc g)))))) h k = absurd (omega arith)

-- the content may be any bytes
any_content : (xs : List ℕ) → clear (take content_bytes (drop content_at above)) xs ≡ true
unfolding above widths
any_content xs = clear_none content_bytes xs

-- the masks of a row in three parts
parts : (g : ℕ) (xs ys zs : List ℕ) → clear (take content_at (zeros_for g)) xs && (clear (take content_bytes (drop content_at (zeros_for g))) ys && clear (drop content_bytes (drop content_at (zeros_for g))) zs)
    ≡ clear (take content_at above) xs && (clear (spares (group_bits * (g - 1)) content_bytes) ys && clear (drop content_bytes (drop content_at above)) zs)
unfolding zeros_for above widths spares
parts g xs ys zs = refl

regroup : (x s z : Bool) → (x && (true && z)) && s ≡ x && (s && z)
regroup true true true = refl
regroup true true false = refl
regroup true false true = refl
regroup true false false = refl
regroup false s z = refl

module _ (r : List ℕ) (long : length r ≡ record_size) (bytes : Bytes r) where
  -- the test by the masks of row g
  by_row : (g : ℕ) → row_of r ≡ g → all_below (byte_zero r) record_size ≡ all_below (zero_at (row g) r) record_size
  by_row g e =
      all_below_same (byte_zero r) (zero_at (row g) r) record_size (λ k h.
      ap (λ (n : ℕ). eqb (bit_and (byte_at r k) n) 0) (ap (λ (n : ℕ). byte_at zero_bits (n * record_size + k)) e ∙ sym (row_at g k h)))

  free_tested : byte_at r 0 ≡ 0 → well_formed r ≡ all_below (byte_zero r) record_size
  unfolding well_formed ranges_fit rest_fits row_of all_less
  free_tested e =
      let free = eq-eqb (byte_at r 0) 0 e in
      let none : row_of r ≡ 0 = ap (λ (b : Bool). cond (not b && complete r) (groups_in r) 0) free in
      ap (λ (b : Bool). within (cond b (replicate record_size 0) widths) r && (b || complete r && all_zero (spare_in r))) free
      ∙ and-true (within (replicate record_size 0) r)
      ∙ within-clear (replicate record_size 0) r refl bytes
      ∙ ap (λ (l : List ℕ). clear l r) (sym free_row)
      ∙ clear-all record_size (row 0) r (omega arith)
      ∙ sym (by_row 0 none)

  module _ (used : byte_at r 0 ≡ 0 → ⊥) where
    taken : eqb (byte_at r 0) 0 ≡ false
    taken = ne_eqb (byte_at r 0) 0 used

    unfit_tested : complete r ≡ false → well_formed r ≡ all_below (byte_zero r) record_size
    unfolding well_formed rest_fits row_of
    unfit_tested e =
        let none : row_of r ≡ 0 = ap₂ (λ (a b : Bool). cond (not a && b) (groups_in r) 0) taken e in
        let mark : zero_at (row 0) r 0 ≡ false = ap (λ (l : List ℕ). zero_at l r 0) free_row ∙ sym (limit 0 (byte_at r 0) (omega arith) (bytes 0)) ∙ le-ltb (byte_at r 0) 1 (omega arith) in
        ap₂ (λ (a b : Bool). ranges_fit r && (a || b && all_zero (spare_in r))) taken e
        ∙ and-false (ranges_fit r)
        ∙ sym (by_row 0 none ∙ all_below_fails (zero_at (row 0) r) record_size 0 (omega arith) mark)

    ranges_clear : ranges_fit r ≡ clear above r
    unfolding ranges_fit above widths all_less
    ranges_clear = ap (λ (b : Bool). within (cond b (replicate record_size 0) widths) r) taken ∙ within-clear widths r refl bytes

    complete_tested : complete r ≡ true → well_formed r ≡ all_below (byte_zero r) record_size
    unfolding well_formed rest_fits row_of complete
    complete_tested e =
        let g = groups_in r in
        let u = content_bits r in
        let groups = and_left (leb 1 g && leb g 5) (marked r) e in
        let some : 1 ≤ g = leb-true 1 g (and_left (leb 1 g) (leb g 5) groups) in
        let few : g ≤ 5 = leb-true g 5 (and_right (leb 1 g) (leb g 5) groups) in
        let own : row_of r ≡ g = ap₂ (λ (a b : Bool). cond (not a && b) (groups_in r) 0) taken e in
        let size : length (content_in r) ≡ content_bytes = length-take-le content_bytes (drop content_at r) (omega (arith, length-drop content_at r)) in
        let first = clear (take content_at above) (take content_at r) in
        let last = clear (drop content_bytes (drop content_at above)) (drop content_bytes (drop content_at r)) in
        let spare = all_zero (spare_in r) in
        let ranges : ranges_fit r ≡ first && (true && last) =
        ranges_clear ∙ clear_split content_at above r
        ∙ ap (λ (b : Bool). first && b) (clear_split content_bytes (drop content_at above) (drop content_at r) ∙ ap (λ (b : Bool). b && last) (any_content (content_in r))) in
        let zeros : clear (zeros_for g) r ≡ first && (spare && last) =
        clear_split content_at (zeros_for g) r
        ∙ ap (λ (b : Bool). clear (take content_at (zeros_for g)) (take content_at r) && b) (clear_split content_bytes (drop content_at (zeros_for g)) (drop content_at r))
        ∙ parts g (take content_at r) (content_in r) (drop content_bytes (drop content_at r))
        ∙ ap (λ (b : Bool). first && (b && last)) (ap (λ (n : ℕ). clear (spares u n) (content_in r)) (sym size) ∙ sym (spare_clear u (content_in r))) in
        ap₂ (λ (a b : Bool). ranges_fit r && (a || b && spare)) taken e
        ∙ ap (λ (b : Bool). b && spare) ranges
        ∙ regroup first spare last
        ∙ sym (by_row g own ∙ ap (λ (l : List ℕ). all_below (zero_at l r) record_size) (used_row g some few) ∙ sym (clear-all record_size (zeros_for g) r (omega arith)) ∙ zeros)

  pub tested : well_formed r ≡ all_below (byte_zero r) record_size
  tested = by_mark (eqb (byte_at r 0) 0) refl
    where
      by_rest : (byte_at r 0 ≡ 0 → ⊥) → (b : Bool) → complete r ≡ b → well_formed r ≡ all_below (byte_zero r) record_size
      by_rest used true e = complete_tested used e
      by_rest used false e = unfit_tested used e

      by_mark : (b : Bool) → eqb (byte_at r 0) 0 ≡ b → well_formed r ≡ all_below (byte_zero r) record_size
      by_mark true e = free_tested (eqb-true (byte_at r 0) 0 e)
      by_mark false e = by_rest (eqb-false (byte_at r 0) 0 e) (complete r) refl

-- the test of eight bytes
pub from_le : (j : ℕ) → eight_from j + 8 ≤ record_size
from_le j = omega arith

pub row_le : (r : List ℕ) → row_of r ≤ 5
unfolding row_of complete
row_le r = by_test (not (eqb (byte_at r 0) 0)) (leb 1 (groups_in r)) (leb (groups_in r) 5) (marked r) refl
  where
    by_test : (a b c d : Bool) → leb (groups_in r) 5 ≡ c → cond (a && ((b && c) && d)) (groups_in r) 0 ≤ 5
    by_test true true true true e = leb-true (groups_in r) 5 e
    by_test true true true false e = omega arith
    by_test true true false d e = omega arith
    by_test true false c d e = omega arith
    by_test false b c d e = omega arith

rows_lt : Bytes zero_bits
unfolding zero_bits zeros_for above spares widths all_less
rows_lt = all_less_lem 256 0 zero_bits (omega arith) refl

bytes-zero : (r : List ℕ) (j : ℕ) → Bytes r → bytes_zero zero_bits r j ≡ all_below (λ k. byte_zero r (eight_from j + k)) 8
unfolding bytes_zero
bytes-zero r j bytes =
    let a = row_of r * record_size in
    let i = eight_from j in
    eight-zero zero_bits r (a + i) i rows_lt bytes
    ∙ all_below_same (λ k. eqb (bit_and (byte_at r (i + k)) (byte_at zero_bits (a + i + k))) 0) (λ k. byte_zero r (i + k)) 8 (λ k h.
    let e : a + i + k ≡ a + (i + k) = omega arith in ap (λ (n : ℕ). eqb (bit_and (byte_at r (i + k)) (byte_at zero_bits n)) 0) e)

-- the test as it is called, with the rows of zero bits
pub tested_by : (r zs : List ℕ) (j : ℕ) → length r ≡ record_size → zs ≡ zero_bits → is_record r && bytes_zero zs r j ≡ bytes_zero zero_bits r j
tested_by r zs j long rows = ap₂ (λ (b : Bool) (ms : List ℕ). b && bytes_zero ms r j) (eq-eqb (length r) record_size long) rows

-- the bytes below j have zeros where their row says
abbrev pub Passed : List ℕ → ℕ → Type 0
Passed r j = (k : ℕ) → k < j → k < record_size → byte_zero r k ≡ true

-- eight more
pub eight_passed : (r : List ℕ) (j : ℕ) → Bytes r → Passed r j → bytes_zero zero_bits r j ≡ true → Passed r (j + 8)
eight_passed r j bytes before eight k h inside = by_test (ltb k j) refl
  where
    here : (i : ℕ) → i ≡ eight_from j → i ≤ k → k < i + 8 → byte_zero r k ≡ true
    here i e low high =
        let s : eight_from j + (k - i) ≡ k = omega arith in
        subst (λ (n : ℕ). byte_zero r n ≡ true) s (all_below_at (λ n. byte_zero r (eight_from j + n)) 8 (k - i) (sym (bytes-zero r j bytes) ∙ eight) (omega arith))

    by_end : (b : Bool) → leb j (record_size - 8) ≡ b → j ≤ k → byte_zero r k ≡ true
    by_end true e low = here j (omega (arith, leb-true j (record_size - 8) e)) low h
    by_end false e low = here (record_size - 8) (omega (arith, leb-false j (record_size - 8) e)) (omega (arith, leb-false j (record_size - 8) e)) (omega arith)

    by_test : (b : Bool) → ltb k j ≡ b → byte_zero r k ≡ true
    by_test true e = before k (ltb-true k j e) inside
    by_test false e = by_end (leb j (record_size - 8)) refl (ltb-false k j e)

module _ (r : List ℕ) (long : length r ≡ record_size) (bytes : Bytes r) where
  pub all_passed : (j : ℕ) → record_size ≤ j → Passed r j → well_formed r ≡ true
  all_passed j h passed = tested r long bytes ∙ all_below_true (byte_zero r) record_size (λ k inside. passed k (omega arith) inside)

  pub eight-unfit : (j : ℕ) → bytes_zero zero_bits r j ≡ false → well_formed r ≡ false
  eight-unfit j e = by_test (well_formed r) refl
    where
      by_test : (b : Bool) → well_formed r ≡ b → well_formed r ≡ false
      by_test false f = f
      by_test true f =
          let all = sym (tested r long bytes) ∙ f in
          f ∙ sym (bytes-zero r j bytes ∙ all_below_true (λ k. byte_zero r (eight_from j + k)) 8 (λ k h. all_below_at (byte_zero r) record_size (eight_from j + k) all (omega (arith, from_le j)))) ∙ e

-- that test as it is called, with the rows of zero bits
module _ (r zs : List ℕ) (j : ℕ) (bytes : Bytes r) (rows : zs ≡ zero_bits) where
  pub eight_fit : is_record r && bytes_zero zs r j ≡ true → (length r ≡ record_size) × (bytes_zero zero_bits r j ≡ true)
  eight_fit h = (eqb-true (length r) record_size (and_left (is_record r) (bytes_zero zs r j) h), sym (ap (λ (ms : List ℕ). bytes_zero ms r j) rows) ∙ and_right (is_record r) (bytes_zero zs r j) h)

  pub eight_fails : is_record r && bytes_zero zs r j ≡ false → is_record r && well_formed r ≡ false
  eight_fails = by_size (is_record r) refl
    where
      by_size : (b : Bool) → is_record r ≡ b → b && bytes_zero zs r j ≡ false → b && well_formed r ≡ false
      by_size false e h = refl
      by_size true e h = eight-unfit r (eqb-true (length r) record_size e) bytes j (sym (ap (λ (ms : List ℕ). bytes_zero ms r j) rows) ∙ h)
