-- What is read can be written: a writer takes the report of every message whose head is in range, and its content is the one that was read, cut
-- to the fewest groups.
use Prim.Native.Nat.{ℕ, ◌+◌, ◌≤◌, ◌^◌}
use native.Mathlib.Omega.{arith}
use mathlib.Core.Path.{◌≡◌, refl, sym, ap, ap₂, subst, ◌∙◌}
use mathlib.Core.Bool.{Bool, true, ◌&&◌}
use mathlib.Core.List.{List, ◌++◌}
use lib.ListN.{length, take, drop, length-append, length-drop, take-append-drop}
use lib.Seq.{length-take-le}
use borrow.Author.Tests.{eq-eqb, le-leb, lt-ltb}
use Rattle.bits.specs.Bits.{val}
use Rattle.bits.specs.Fields.{fits}
use Rattle.std.specs.Prelude.{Ok, Err}
use Rattle.bits.proofs.Choice.{either}
use Rattle.bits.proofs.Outcomes.{refused-gives-none}
use Rattle.bits.proofs.Value.{bits-val, val-take_lt}
use Rattle.word.specs.declared.Head.{Head}
use Rattle.word.specs.Format.{head_part}
use Rattle.word.specs.Compose.{head_values}
use Rattle.content.specs.declared.item.Item.{Item}
use Rattle.content.specs.Items.{Reading, items}
use Rattle.content.specs.Content.{content_length, content}
use Rattle.content.specs.Packing.{longest, packing, writable, room, padded}
use Rattle.content.specs.Stored.{filled}
use Rattle.content.proofs.Lengths.{groups_of}
use Rattle.content.proofs.Places.{listed-filled, well_placed-filled}
use Rattle.content.proofs.AtMost28.{at_most_28}
use Rattle.content.proofs.ReadIsWritten.{packed_in, items-writable, content_short, content_holds, read_is_written}
use Rattle.report.specs.declared.Report.{Report}
use Rattle.report.specs.declared.Form.TheVariants.{Multi}
use Rattle.report.specs.Report.{duration_of, diversion_of, multi_report}
use Rattle.report.specs.InterRoad.{items_at, real_bits, content_of}
use Rattle.report.specs.Read.{read_items, read_bits}
use Rattle.report.specs.Fits.{agrees, items_fit, content_fits, multi_fits, fits_by, real_fits, report_fits}
use Rattle.report.proofs.Places.{place_small}
use Rattle.report.proofs.Wholes.{length_between, items-read, items_refused, whole-read, whole-refused}

-- a message that reads as a report: the items of its content, and the report of these
pub record Read (h : Head) (l : List Bool) (r : Report) : Type 0 where
  pub whole : content_length (length l) ≡ true
  pub its : List Item
  pub reading : content (drop (items_at Multi h) l) ≡ Ok its
  pub is : r ≡ multi_report h (val (take (items_at Multi h) l)) its

pub message-read : (h : Head) (l : List Bool) (r : Report) → read_bits h l ≡ Ok r → Read h l r
message-read h l r e =
    either (content_length (length l))
    (λ w. by_reading w (content (drop (items_at Multi h) l)) refl (sym (whole-read h l w) ∙ e))
    (λ f. absurd (refused-gives-none (sym (whole-refused h l f) ∙ e)))
  where
    by_reading : content_length (length l) ≡ true → (x : Reading) → content (drop (items_at Multi h) l) ≡ x
        → read_items h (val (take (items_at Multi h) l)) (length l) (drop (items_at Multi h) l) ≡ Ok r → Read h l r
    by_reading w (Ok its) c g =
        let same : Ok (multi_report h (val (take (items_at Multi h) l)) its) ≡ Ok r = sym (items-read h _ (length l) _ its c) ∙ g in
        record { whole = w; its = its; reading = c; is = cc }
    by_reading w (Err u) c g = absurd (refused-gives-none (sym (items_refused h _ (length l) _ u c) ∙ g))

module _ (h : Head) (l : List Bool) (r : Report) (m : Read h l r) where
  abbrev at : ℕ
  at = items_at Multi h

  abbrev front : List Bool
  front = take at l

  length_front : length front ≡ at
  length_front = let small = place_small Multi h in let long = length_between (length l) m.whole in length-take-le at l (omega arith)

  held : items (drop at l) ≡ Ok m.its
  held = content_holds (drop at l) m.its m.reading

  -- the content of the report is what was read, without the zero bits after the items
  pub same-content : content_of r ≡ front ++ packing m.its
  unfolding content_of real_bits
  same-content =
      ap content_of m.is
      ∙ ap₂ (λ (p : List Bool) (its : List Item). p ++ packing its) (bits-val front at length_front) (listed-filled m.its)

  -- its later groups are those that were read, cut to the fewest
  pub written_again : padded (content_of r) ≡ take (room (length (content_of r))) l
  written_again =
      let all = take-append-drop at l in
      ap padded same-content
      ∙ read_is_written front (drop at l) m.its held (ap (λ (x : List Bool). content_length (length x)) all ∙ m.whole)
      ∙ ap₂ (λ (x y : List Bool). take (room (length x)) y) (sym same-content) all

  short : length (content_of r) ≤ longest
  short =
      let p = packed_in (drop at l) m.its held in
      let long = length_between (length l) m.whole in
      let all : length (drop at l) ≡ length (packing m.its) + length p.spare = ap length p.bits ∙ length-append (packing m.its) p.spare in
      let g = groups_of (length l) m.whole in
      let small = place_small Multi h in
      omega (arith, ap length same-content, length-append front (packing m.its), length_front, length-drop at l)

  -- such items are written
  items-written : items_fit (filled m.its) ≡ true
  unfolding items_fit
  items-written =
      let few = at_most_28 (drop at l) m.its (content_short (drop at l) m.its m.reading) held in
      ap₂ ◌&&◌ (well_placed-filled m.its few) (ap writable (listed-filled m.its) ∙ items-writable (drop at l) m.its (content_short (drop at l) m.its m.reading) held)

  agreeing : agrees (multi_report h (val front) m.its) ≡ true
  unfolding agrees
  agreeing =
      let back = sym (listed-filled m.its) in
      ap₂ ◌&&◌ (eq-eqb _ _ (ap (λ (x : List Item). duration_of x) back)) (eq-eqb _ _ (ap (λ (x : List Item). diversion_of x) back))

  pub read_fits : fits head_part (head_values h) ≡ true → report_fits r ≡ true
  unfolding report_fits real_fits fits_by multi_fits content_fits
  read_fits head =
      let made = multi_report h (val front) m.its in
      let room : content_fits made ≡ true = le-leb (length (content_of made)) longest (subst (λ (x : Report). length (content_of x) ≤ longest) m.is short) in
      ap report_fits m.is
      ∙ ap₂ ◌&&◌ (lt-ltb (val front) (2 ^ at) (val-take_lt at l)) (ap₂ ◌&&◌ (ap₂ ◌&&◌ items-written room) (ap₂ ◌&&◌ head agreeing))
