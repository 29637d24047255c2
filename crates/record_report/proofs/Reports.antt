-- The ranges of the fields of a report that a writer takes.
use Prim.Native.Nat.{ℕ, ◌^◌, ◌<◌}
use native.Mathlib.Omega.{arith}
use mathlib.Core.Path.{◌≡◌, refl, sym, ap, subst, ◌∙◌}
use mathlib.Core.Bool.{Bool, true, false, cond, ◌&&◌}
use mathlib.Core.List.{List, [], ◌∷◌}
use lib.Dec.{ltb, eqb}
use borrow.Author.Tests.{ltb-true, eqb-true}
use Rattle.bits.specs.Fields.{fits}
use Rattle.bits.proofs.Choice.{and_left, and_right, chosen, passed_over}
use Rattle.word.specs.declared.Head.{Head}
use Rattle.word.specs.Format.{head_part, head_format}
use Rattle.word.specs.Compose.{head_values, single_values}
use Rattle.content.specs.declared.item.Item.{Item}
use Rattle.content.specs.Stored.{listed, well_placed}
use Rattle.content.proofs.WrittenIsRead.{packable-fits, writable-packable}
use Rattle.report.specs.declared.Report.{Report}
use Rattle.report.specs.declared.Form.{Form}
use Rattle.report.specs.declared.Form.TheVariants.{Single, Multi}
use Rattle.report.specs.Report.{first_where, is_diversion, duration_of, diversion_of}
use Rattle.report.specs.InterRoad.{inter_road, items_at}
use Rattle.report.specs.Fits.{single_fits, items_fit, content_fits, multi_fits, agrees, fits_by, real_fits, report_fits}
use Rattle.report.proofs.Messages.{duration_lt}
use Rattle.report.proofs.Multi.{fit-writable}
use Rattle.report.proofs.Kept.{report-items}

pub record HeadRanges (h : Head) : Type 0 where
  pub direction_lt : h.direction < 2
  pub extent_lt : h.extent < 8
  pub event_lt : h.event < 2048
  pub location_lt : h.location < 65536

pub record ReportRanges (r : Report) : Type 0 where
  pub head_in_lem : HeadRanges r.head
  pub diversion_lt : r.diversion < 2
  pub duration_lt : r.duration < 8
  pub real_lt : r.real < 65536

head_ranges : (h : Head) → fits head_part (head_values h) ≡ true → HeadRanges h
unfolding fits
head_ranges h e =
    let fourth = ltb h.location 65536 && true in
    let third = ltb h.event 2048 && fourth in
    let second = ltb h.extent 8 && third in
    let after_first = and_right (ltb h.direction 2) second e in
    let after-second = and_right (ltb h.extent 8) third after_first in
    let after-third = and_right (ltb h.event 2048) fourth after-second in
    record {
      direction_lt = ltb-true h.direction 2 (and_left (ltb h.direction 2) second e);
      extent_lt = ltb-true h.extent 8 (and_left (ltb h.extent 8) third after_first);
      event_lt = ltb-true h.event 2048 (and_left (ltb h.event 2048) fourth after-second);
      location_lt = ltb-true h.location 65536 (and_left (ltb h.location 65536) true after-third);
    }

diversion-bit : (its : List Item) → diversion_of its < 2
unfolding first_where
diversion-bit [] = omega arith
diversion-bit (i ∷ its) = by_test (is_diversion i) refl (diversion-bit its)
  where
    by_test : (b : Bool) → is_diversion i ≡ b → diversion_of its < 2 → cond (is_diversion i) 1 (diversion_of its) < 2
    by_test true e k = subst (λ (n : ℕ). n < 2) (sym (chosen _ _ _ e)) (omega arith)
    by_test false e k = subst (λ (n : ℕ). n < 2) (sym (passed_over _ _ _ e)) k

module _ (r : Report) where
  -- a real location is within the bits of its place, and 0 where it has none
  real_place : (b : Bool) → report_fits r ≡ true → inter_road r.form r.head ≡ b → r.real < 2 ^ cond b 16 0
  unfolding report_fits real_fits items_at
  real_place b fit e = ltb-true r.real (2 ^ cond b 16 0) (sym (ap (λ (x : Bool). ltb r.real (2 ^ cond x 16 0)) e) ∙ and_left (real_fits r.form r.head r.real) (fits_by r.form r) fit)

  pub no_real : report_fits r ≡ true → inter_road r.form r.head ≡ false → r.real ≡ 0
  no_real fit e = omega (arith, real_place false fit e)

  real_16 : report_fits r ≡ true → r.real < 65536
  real_16 fit = by_road (inter_road r.form r.head) refl
    where
      by_road : (b : Bool) → inter_road r.form r.head ≡ b → r.real < 65536
      by_road true e = real_place true fit e
      by_road false e = omega (arith, real_place false fit e)

  single_ranges : r.real < 65536 → single_fits r ≡ true → ReportRanges r
  unfolding single_fits
  single_ranges real e =
      let head = fits head_part (head_values r.head) in
      let f : ltb r.duration 8 && (ltb r.diversion 2 && head) ≡ true = unfold fits in and_left (fits head_format (single_values r.duration r.diversion r.head)) (well_placed r.items && eqb r.items.count 0) e in
      let rest = and_right (ltb r.duration 8) (ltb r.diversion 2 && head) f in
      record {
        head_in_lem = head_ranges r.head (and_right (ltb r.diversion 2) head rest);
        diversion_lt = ltb-true r.diversion 2 (and_left (ltb r.diversion 2) head rest);
        duration_lt = ltb-true r.duration 8 (and_left (ltb r.duration 8) (ltb r.diversion 2 && head) f);
        real_lt = real;
      }

  multi_ranges : r.real < 65536 → multi_fits r ≡ true → items_fit r.items ≡ true → ReportRanges r
  unfolding multi_fits agrees
  multi_ranges real e its =
      let head = fits head_part (head_values r.head) in
      let list = listed r.items in
      let duration-same = eqb r.duration (duration_of list) in
      let diversion-same = eqb r.diversion (diversion_of list) in
      let rest = and_right (items_fit r.items && content_fits r) (head && (duration-same && diversion-same)) e in
      let both = and_right head (duration-same && diversion-same) rest in
      let duration-is = eqb-true r.duration (duration_of list) (and_left duration-same diversion-same both) in
      let diversion-is = eqb-true r.diversion (diversion_of list) (and_right duration-same diversion-same both) in
      let short = duration_lt list (packable-fits list (writable-packable list (fit-writable r.items its))) in
      record {
        head_in_lem = head_ranges r.head (and_left head (duration-same && diversion-same) rest);
        diversion_lt = subst (λ (n : ℕ). n < 2) (sym diversion-is) (diversion-bit list);
        duration_lt = subst (λ (n : ℕ). n < 8) (sym duration-is) short;
        real_lt = real;
      }

  pub report_ranges : report_fits r ≡ true → ReportRanges r
  unfolding report_fits
  report_ranges e = by_form r.form (and_right (real_fits r.form r.head r.real) (fits_by r.form r) e)
    where
      by_form : (f : Form) → fits_by f r ≡ true → ReportRanges r
      by_form Single h = single_ranges (real_16 e) (unfold fits_by in h)
      by_form Multi h = multi_ranges (real_16 e) (unfold fits_by in h) (report-items r e)
