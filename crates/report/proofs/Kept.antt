-- The content of a report as the table keeps it.
use Prim.Native.Nat.{ℕ, zero, suc, ◌+◌, ◌-◌, ◌*◌, ◌/◌, ◌^◌, ◌≤◌, ◌<◌}
use mathlib.Core.Path.{◌≡◌, refl, sym, ap, ap₂, ◌∙◌}
use mathlib.Core.Bool.{Bool, true, false, ◌&&◌}
use mathlib.Core.List.{List, [], ◌∷◌, ◌++◌, append-nil}
use native.Mathlib.Nat.{suc-mul, zero-mul, add_comm, suc-add, zero-add}
use native.Mathlib.Omega.{arith}
use lib.ListN.{length, take, drop, length-append, length-replicate, length-drop}
use lib.Seq.{drop-drop, drop-length, take_at, drop_at, take-take, take-append-add}
use lib.Dec.{eqb}
use borrow.Author.Tests.{eqb-true, le-leb, lt-leb}
use borrow.Rule.Slice.PartMut.{put_mid, post_of}
use Rattle.std.specs.Prelude.{Result, Ok, Err}
use Rattle.refusal.specs.declared.Refusal.{Refusal}
use Rattle.refusal.specs.declared.Refusal.TheVariants.{Unfit, SmallBuffer}
use Rattle.bits.specs.Bits.{bits, val}
use Rattle.bits.specs.Fields.{words, fits}
use Rattle.bits.proofs.Outcomes.{refused-gives-none}
use Rattle.bits.proofs.Choice.{and_left, and_right}
use Rattle.bits.proofs.Value.{length-bits, take-bits}
use Rattle.bits.proofs.Stretch.{drop-take}
use Rattle.bits.proofs.Fields.{length-words}
use Rattle.word.specs.Format.{head_format}
use Rattle.word.specs.Compose.{single_values}
use Rattle.content.specs.declared.content.Content.{Content}
use Rattle.content.specs.declared.items.Items.{Items}
use Rattle.content.specs.declared.pack.Packed.{Packed}
use Rattle.content.specs.Halves.{bits_of, starting_with}
use Rattle.content.specs.Packing.{zeros, longest, packing, all_fit, packable, last_zero, writable}
use Rattle.content.specs.Stored.{listed, well_placed}
use Rattle.content.specs.Answers.{packed, packed_of}
use Rattle.content.proofs.Halves.{bits_of-content_of}
use Rattle.content.proofs.Zeros.{take-zeros}
use Rattle.content.proofs.WrittenIsRead.{packable_short, writable-packable}
use Rattle.report.specs.declared.Report.{Report}
use Rattle.report.specs.declared.Form.{Form}
use Rattle.report.specs.declared.Form.TheVariants.{Single, Multi}
use Rattle.report.specs.Fits.{single_fits, items_fit, fits_by, real_fits, report_fits}
use Rattle.report.specs.Record.{content_bytes, bytes_of, groups_of, pack_report, bytes_after}
use Rattle.report.proofs.Multi.{items-fit, fit-writable, fit-packed}

-- n words stand in the first n * w bits
pub words_take : (w n : ℕ) (l : List Bool) → words w n (take (n * w) l) ≡ words w n l
unfolding words
words_take w zero l = refl
words_take w (suc n) l =
    let e : suc n * w ≡ w + n * w = suc-mul n w ∙ add_comm (n * w) w in
    ap₂ (λ (a b : List Bool). val a ∷ words w n b)
    (take-take w (suc n * w) l (omega (arith, suc-mul n w)))
    (ap (λ (m : ℕ). drop w (take m l)) e ∙ drop-take w (n * w) l)
    ∙ ap (λ (ns : List ℕ). val (take w l) ∷ ns) (words_take w n (drop w l))

pub words_append : (w m n : ℕ) (l : List Bool) → words w (m + n) l ≡ words w m l ++ words w n (drop (m * w) l)
unfolding words
words_append w zero n l = ap₂ (λ (m : ℕ) (d : List Bool). words w m d) (zero-add n) (ap (λ (m : ℕ). drop m l) (sym (zero-mul w)))
words_append w (suc m) n l =
    ap (λ (k : ℕ). words w k l) (suc-add m n)
    ∙ ap (λ (ns : List ℕ). val (take w l) ∷ ns)
    (words_append w m n (drop w l)
    ∙ ap (λ (d : List Bool). words w m (drop w l) ++ words w n d) (drop-drop (m * w) w l ∙ ap (λ (k : ℕ). drop k l) (add_comm w (m * w) ∙ sym (suc-mul m w))))

-- the first eight bytes and the next six, from the two halves
first_half : (c : Content) → words 8 8 (bits_of c) ≡ words 8 8 (bits 64 c.high)
unfolding bits_of
first_half c = sym (words_take 8 8 (bits_of c)) ∙ ap (words 8 8) (take_at (bits 64 c.high) (bits 64 c.low) 64 (length-bits 64 c.high))

second_half : (c : Content) → words 8 6 (drop (8 * 8) (bits_of c)) ≡ words 8 6 (bits 48 (c.low / 2 ^ 16))
unfolding bits_of
second_half c =
    ap (words 8 6) (drop_at (bits 64 c.high) (bits 64 c.low) 64 (length-bits 64 c.high))
    ∙ sym (words_take 8 6 (bits 64 c.low))
    ∙ ap (words 8 6) (take-bits 48 16 c.low)

-- eight bytes and six bytes are the first 112 bits
pub two-stores : (c : Content) (out : List ℕ) → length out ≡ content_bytes → put_mid 8 6 (words 8 8 (bits 64 c.high) ++ post_of 0 8 out) (words 8 6 (bits 48 (c.low / 2 ^ 16))) ≡ words 8 content_bytes (bits_of c)
two-stores c out e =
    let high = words 8 8 (bits 64 c.high) in
    let low = words 8 6 (bits 48 (c.low / 2 ^ 16)) in
    let rest = drop 8 out in
    let eight = length-words 8 8 (bits 64 c.high) in
    let six : length rest ≡ 6 = length-drop 8 out ∙ ap (λ (n : ℕ). n - 8) e in
    ap₂ (λ (a b : List ℕ). a ++ (low ++ drop 6 b)) (take_at high rest 8 eight) (drop_at high rest 8 eight)
    ∙ ap (λ (t : List ℕ). high ++ (low ++ t)) (ap (λ (n : ℕ). drop n rest) (sym six) ∙ drop-length rest)
    ∙ ap₂ (λ (a b : List ℕ). a ++ b) (sym (first_half c)) (append-nil low ∙ sym (second_half c))
    ∙ sym (words_append 8 8 6 (bits_of c))

pub no_items : (s : Items) → s.count ≡ 0 → listed s ≡ []
unfolding listed
no_items s e = ap (λ (n : ℕ). take n s.places) e

writable-none : writable [] ≡ true
unfolding writable packable all_fit last_zero packing
writable-none = refl

-- a single-group report has no items
pub single-none : (r : Report) → single_fits r ≡ true → r.items.count ≡ 0
unfolding single_fits
single-none r h =
    eqb-true r.items.count 0
    (and_right (well_placed r.items) (eqb r.items.count 0) (and_right (fits head_format (single_values r.duration r.diversion r.head)) (well_placed r.items && eqb r.items.count 0) h))

-- the items of a report that fits can be packed, whatever its form
pub single-items : (r : Report) → single_fits r ≡ true → items_fit r.items ≡ true
unfolding single_fits items_fit
single-items r h =
    let items = and_right (fits head_format (single_values r.duration r.diversion r.head)) (well_placed r.items && eqb r.items.count 0) h in
    let none : listed r.items ≡ [] = no_items r.items (single-none r h) in
    ap₂ (λ (a b : Bool). a && b) (and_left (well_placed r.items) (eqb r.items.count 0) items) (ap writable none ∙ writable-none)

pub report-items : (r : Report) → report_fits r ≡ true → items_fit r.items ≡ true
unfolding report_fits fits_by
report-items r h = by_form r.form (and_right (real_fits r.form r.head r.real) (fits_by r.form r) h)
  where
    by_form : (f : Form) → fits_by f r ≡ true → items_fit r.items ≡ true
    by_form Single e = single-items r e
    by_form Multi e = items-fit r e

module _ (r : Report) (fit : report_fits r ≡ true) where
  pub kept_short : length (packing (listed r.items)) ≤ longest
  kept_short = packable_short (listed r.items) (writable-packable (listed r.items) (fit-writable r.items (report-items r fit)))

  -- its items are packed
  pub is_packed : (refusal : Refusal) → Err refusal ≡ packed_of r.items → ⊥
  is_packed refusal e = refused-gives-none {a = packed (listed r.items)} (e ∙ fit-packed r.items (report-items r fit))

  pub kept-packed : (p : Packed) → Ok p ≡ packed_of r.items → p ≡ packed (listed r.items)
  kept-packed p e =
      let both : ◌≡◌ {A = Result Packed Refusal} (Ok p) (Ok (packed (listed r.items))) = e ∙ fit-packed r.items (report-items r fit) in
      cc

  pub kept-bytes : words 8 content_bytes (bits_of (packed (listed r.items)).content) ≡ bytes_of (listed r.items)
  unfolding bytes_of packed starting_with
  kept-bytes =
      let l = packing (listed r.items) in
      let n = length l in
      let short = kept_short in
      let size : n + (128 - n) ≡ 128 = omega arith in
      let cut : longest ≡ n + (longest - n) = omega arith in
      let wide : length (l ++ zeros (128 - n)) ≡ 128 = length-append l (zeros (128 - n)) ∙ ap (λ (m : ℕ). n + m) (length-replicate (128 - n) false) ∙ size in
      ap (words 8 content_bytes) (bits_of-content_of (l ++ zeros (128 - n)) wide)
      ∙ sym (words_take 8 content_bytes (l ++ zeros (128 - n)))
      ∙ ap (words 8 content_bytes)
      (ap (λ (m : ℕ). take m (l ++ zeros (128 - n))) cut
      ∙ take-append-add l (zeros (128 - n)) (longest - n)
      ∙ ap (λ (z : List Bool). l ++ z) (take-zeros (longest - n) (128 - n) (omega arith)))

-- it is packed exactly if it fits and there is room
module _ (r : Report) (out : List ℕ) where
  pub packed-whole : report_fits r ≡ true → 14 ≤ length out → (Ok (groups_of r) ≡ pack_report r (length out)) × (bytes_of (listed r.items) ++ drop 14 out ≡ bytes_after r out)
  unfolding pack_report bytes_after
  packed-whole f h = let room = le-leb 14 (length out) h in (rw (f, room), rw (f, room))

  pub no_room-kept : report_fits r ≡ true → length out < 14 → (Err SmallBuffer ≡ pack_report r (length out)) × (out ≡ bytes_after r out)
  unfolding pack_report bytes_after
  no_room-kept f h = let room = lt-leb 14 (length out) h in (rw (f, room), rw (f, room))

  pub unfit-kept : report_fits r ≡ false → (Err Unfit ≡ pack_report r (length out)) × (out ≡ bytes_after r out)
  unfolding pack_report bytes_after
  unfit-kept f = (rw f, rw f)
