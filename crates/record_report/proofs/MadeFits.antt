-- The record made from a report is well-formed.
use Prim.Native.Nat.{ℕ, zero, suc, ◌+◌, ◌-◌, ◌*◌, ◌^◌, ◌≤◌, ◌<◌}
use native.Mathlib.Omega.{arith}
use mathlib.Core.Path.{◌≡◌, refl, sym, ap, ap₂, subst, ◌∙◌}
use mathlib.Core.Bool.{Bool, true, false, not, ◌&&◌, ◌||◌}
use mathlib.Core.List.{List, [], ◌∷◌, ◌++◌}
use lib.ListN.{length, take, drop, get_or, replicate, length-append, length-replicate, length-drop}
use lib.Seq.{drop-append-add, length-take-le}
use lib.Dec.{eqb, leb}
use borrow.Author.Tests.{leb-true, le-leb, ne_eqb}
use Rattle.bits.specs.Bits.{val, all_zero}
use Rattle.bits.specs.Fields.{flat, words}
use Rattle.bits.proofs.Choice.{and_left, and_right}
use Rattle.bits.proofs.Value.{val_lt}
use Rattle.content.specs.declared.item.Item.{Item}
use Rattle.content.specs.Packing.{zeros, packing, group_bits, longest}
use Rattle.content.specs.Stored.{listed}
use Rattle.content.proofs.Zeros.{all_zero-zeros, all_zero-drop}
use Rattle.content.proofs.WrittenIsRead.{packable_short, writable-packable}
use Rattle.report.specs.declared.Report.{Report}
use Rattle.report.specs.declared.Form.{Form}
use Rattle.report.specs.declared.Form.TheVariants.{Single, Multi}
use Rattle.report.specs.Fits.{fits_by, real_fits, report_fits}
use Rattle.report.specs.Record.{bytes_of, groups_for, groups_of}
use Rattle.report.proofs.Multi.{fit-writable}
use Rattle.report.proofs.Kept.{no_items, single-none, report-items}
use Rattle.location.specs.declared.Location.{Location}
use Rattle.location.specs.Flt.{foreign}
use Rattle.location.proofs.Codes.{country_lt, ltn_lt}
use Rattle.report.specs.InterRoad.{inter_road}
use Rattle.record.specs.declared.Service.{Service}
use Rattle.record.specs.Services.{service_fits}
use Rattle.record.specs.Locations.{location_of}
use Rattle.record.proofs.Ranges.{within-next}
use Rattle.record.proofs.StoredSets.{eight-within}
use Rattle.record.proofs.ReportLocations.{location-foreign, location_home}
use Rattle.record.specs.Layout.{groups_in, expiry_in}
use Rattle.record.specs.Classes.{set_fits}
use Rattle.record.specs.WellFormed.{widths, within, ranges_fit, marked, complete, content_bits, spare_in, rest_fits, well_formed}
use Rattle.record_report.specs.declared.Kept.{Kept}
use Rattle.record_report.specs.Made.{tail_bytes, marks_fit, can_make, record_of}
use Rattle.record_report.proofs.Contents.{length-bytes, groups-few}
use Rattle.record_report.proofs.MadeFields.{used_back, groups_back, expiry_back, content_back, set_back}
use Rattle.record_report.proofs.WayBack.{bits_back}
use Rattle.record_report.proofs.Reports.{report_ranges}

-- every number of w bits is in its range
words_lt : (w n j : ℕ) (l : List Bool) → n * w ≤ length l → j < n → get_or (words w n l) j 0 < 2 ^ w
unfolding words
words_lt w zero j l h k = absurd (omega arith)
words_lt w (suc n) zero l h k = subst (λ (m : ℕ). val (take w l) < 2 ^ m) (length-take-le w l (omega arith)) (val_lt (take w l))
words_lt w (suc n) (suc j) l h k = words_lt w n j (drop w l) (omega (arith, length-drop w l)) (omega arith)

-- a byte of items
byte_lt : (its : List Item) (j : ℕ) → length (packing its) ≤ longest → j < 14 → get_or (bytes_of its) j 0 < 256
unfolding bytes_of
byte_lt its j short k =
    let n = length (packing its) in
    let size : length (packing its ++ zeros (longest - n)) ≡ n + (longest - n) = length-append (packing its) (zeros (longest - n)) ∙ ap (λ (m : ℕ). n + m) (length-replicate (longest - n) false) in
    words_lt 8 14 j (packing its ++ zeros (longest - n)) (omega arith) k

-- what follows other bits is zero
zero-after : (l : List Bool) (m n : ℕ) → length l ≤ n → all_zero (drop n (l ++ zeros m)) ≡ true
zero-after l m n h =
    let e : n ≡ length l + (n - length l) = omega arith in
    ap (λ (k : ℕ). all_zero (drop k (l ++ zeros m))) e
    ∙ ap all_zero (drop-append-add l (zeros m) (n - length l))
    ∙ all_zero-drop (n - length l) (zeros m) (all_zero-zeros m)

-- bytes of content that are in their range
within_any : (n : ℕ) (xs ys ws : List ℕ) → length xs ≡ n → ((j : ℕ) → j < n → get_or xs j 0 < 256) → within ws ys ≡ true → within (replicate n 8 ++ ws) (xs ++ ys) ≡ true
within_any zero [] ys ws l h e = e
within_any zero (x ∷ xs) ys ws l h e = absurd (omega arith)
within_any (suc n) [] ys ws l h e = absurd (omega arith)
within_any (suc n) (x ∷ xs) ys ws l h e = within-next _ _ _ _ (h 0 (omega arith)) (within_any n xs ys ws (omega arith) (λ j k. h (suc j) (omega arith)) e)

-- what is tested before a record is made
record Ranges (k : Kept) (set : ℕ) : Type 0 where
  report-fits : report_fits k.report ≡ true
  country_le : k.service.country ≤ 15
  ltn_le : k.service.ltn ≤ 63
  sid_le : k.service.sid ≤ 63
  set-fits : set_fits set ≡ true
  expiry_ge : 1 ≤ k.expiry.0

ranges : (k : Kept) (set : ℕ) → can_make k set ≡ true → Ranges k set
unfolding can_make
ranges k set e =
    let r = k.report in
    let s = k.service in
    let expiry = k.expiry.0 in
    let places = leb s.ltn 63 && leb s.sid 63 in
    let marks = and_left (marks_fit k set) (report_fits r) e in
    let service = and_left (service_fits s) (set_fits set && leb 1 expiry) marks in
    let rest = and_right (service_fits s) (set_fits set && leb 1 expiry) marks in
    let in-places = and_right (leb s.country 15) places service in
    record {
      report-fits = and_right (marks_fit k set) (report_fits r) e;
      country_le = leb-true s.country 15 (and_left (leb s.country 15) places service);
      ltn_le = leb-true s.ltn 63 (and_left (leb s.ltn 63) (leb s.sid 63) in-places);
      sid_le = leb-true s.sid 63 (and_right (leb s.ltn 63) (leb s.sid 63) in-places);
      set-fits = and_left (set_fits set) (leb 1 expiry) rest;
      expiry_ge = leb-true 1 expiry (and_right (set_fits set) (leb 1 expiry) rest);
    }

module _ (r : Report) (fit : report_fits r ≡ true) where
  its_short : length (packing (listed r.items)) ≤ longest
  its_short = packable_short (listed r.items) (writable-packable (listed r.items) (fit-writable r.items (report-items r fit)))

  -- the groups hold the items
  groups_hold : (1 ≤ groups_of r) × (length (packing (listed r.items)) ≤ group_bits * (groups_of r - 1))
  unfolding report_fits groups_of groups_for packing
  groups_hold = by_form r.form (and_right (real_fits r.form r.head r.real) (fits_by r.form r) fit)
    where
      by_form : (f : Form) → fits_by f r ≡ true → (1 ≤ groups_for f (length (packing (listed r.items)))) × (length (packing (listed r.items)) ≤ group_bits * (groups_for f (length (packing (listed r.items))) - 1))
      by_form Single h =
          let none : listed r.items ≡ [] = no_items r.items (single-none r (unfold fits_by in h)) in
          let empty : length (packing (listed r.items)) ≡ 0 = ap (λ (its : List Item). length (packing its)) none in
          omega arith
      by_form Multi h = omega arith

module _ (k : Kept) (set : ℕ) (can : can_make k set ≡ true) (small : set < 2 ^ 64) (short : k.expiry.0 < 0x1_0000_0000) where
  abbrev r : Report
  r = k.report

  abbrev s : Service
  s = k.service

  abbrev expiry : ℕ
  expiry = k.expiry.0

  abbrev c : Ranges k set
  c = ranges k set can

  abbrev made : List ℕ
  made = record_of k set

  -- the parts of its location are in their ranges
  abbrev InRange : Location → Type 0
  InRange l = (l.country < 16) × (l.ltn < 64) × (l.code < 65536)

  location_in : InRange (location_of s r)
  unfolding foreign
  location_in = by_road (inter_road r.form r.head) refl
    where
      by_road : (b : Bool) → inter_road r.form r.head ≡ b → InRange (location_of s r)
      by_road true e = subst InRange (sym (location-foreign s r e)) (country_lt r.head.location, ltn_lt r.head.location, (report_ranges r c.report-fits).real_lt)
      by_road false e =
          let country = c.country_le in
          let ltn = c.ltn_le in
          subst InRange (sym (location_home s r e)) (omega arith, omega arith, (report_ranges r c.report-fits).head_in_lem.location_lt)

  spare_zero : all_zero (spare_in made) ≡ true
  spare_zero =
      let fit = c.report-fits in
      let its = listed r.items in
      let hold : length (packing its) ≤ content_bits made = omega (arith, groups_hold r fit, groups_back k set) in
      ap (λ (l : List Bool). all_zero (drop (content_bits made) l)) (ap (flat 8) (content_back k set) ∙ bits_back its (its_short r fit))
      ∙ zero-after (packing its) (longest - length (packing its)) (content_bits made) hold

  made_ranges : ranges_fit made ≡ true
  unfolding ranges_fit record_of widths
  made_ranges =
      let in-report = report_ranges r c.report-fits in
      let known = c in
      let in_head = in-report.head_in_lem in
      let few = groups-few r c.report-fits in
      let its = listed r.items in
      let l = location_of s r in
      let in_table = location_in in
      let last : within (drop 30 widths) (tail_bytes s l set) ≡ true = within-next _ _ _ _ (omega arith) (within-next _ _ _ _ (omega arith) (within-next _ _ _ _ (omega arith) (within-next _ _ _ _ (omega arith) (eight-within set small)))) in
      let content = within_any 14 (bytes_of its) (tail_bytes s l set) (drop 30 widths) (length-bytes its) (λ j below. byte_lt its j (its_short r c.report-fits) below) last in
      within-next _ _ _ _ (omega arith) (within-next _ _ _ _ (omega arith) (within-next _ _ _ _ (omega arith) (within-next _ _ _ _ (omega arith)
      (within-next _ _ _ _ (omega arith) (within-next _ _ _ _ (omega arith) (within-next _ _ _ _ (omega arith) (within-next _ _ _ _ (omega arith)
      (within-next _ _ _ _ (omega arith) (within-next _ _ _ _ (omega arith) (within-next _ _ _ _ (omega arith) (within-next _ _ _ _ (omega arith)
      (within-next _ _ _ _ (omega arith) (within-next _ _ _ _ (omega arith) (within-next _ _ _ _ (omega arith) (within-next _ _ _ _ (omega arith) content)))))))))))))))

  made_complete : complete made ≡ true
  unfolding complete marked
  made_complete =
      let known = c in
      let few = groups-few r c.report-fits in
      let hold = groups_hold r c.report-fits in
      let groups = groups_back k set in
      let ends : expiry_in made ≡ 0 → ⊥ = λ z. omega (arith, expiry_back k set) in
      ap₂ (λ (a b : Bool). a && b) (ap₂ (λ (a b : Bool). a && b) (le-leb 1 (groups_in made) (omega arith)) (le-leb (groups_in made) 5 (omega arith)))
      (ap₂ (λ (a b : Bool). not a && b) (ne_eqb (expiry_in made) 0 ends) (ap set_fits (set_back k set small) ∙ known.set-fits))

  pub made_fits : well_formed (record_of k set) ≡ true
  unfolding well_formed rest_fits
  made_fits =
      ap₂ (λ (a b : Bool). a && b) made_ranges
      (ap (λ (n : ℕ). eqb n 0 || complete made && all_zero (spare_in made)) (used_back k set) ∙ ap₂ (λ (a b : Bool). a && b) made_complete spare_zero)
