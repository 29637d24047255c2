-- The parts one after the other, or nothing changed.
use Prim.Native.Nat.{ℕ}
use native.Mathlib.Omega.{arith}
use mathlib.Core.Path.{◌≡◌, refl, sym, ap, ap₂, ◌∙◌}
use mathlib.Core.Bool.{true, false}
use mathlib.Core.List.{List, ◌++◌}
use lib.ListN.{length, take, drop}
use borrow.Rule.Slice.PartMut.{put_mid}
use Rattle.std.specs.Prelude.{Err}
use Rattle.content.specs.Stored.{listed}
use Rattle.report.specs.Fits.{report_fits}
use Rattle.report.specs.Record.{bytes_of}
use Rattle.record.specs.Layout.{record_size, content_in}
use Rattle.record_report.specs.declared.Kept.{Kept}
use Rattle.record_report.specs.Made.{front_bytes, tail_bytes, location_kept, record_of}
use Rattle.record_report.proofs.Filling.{length-content, part_kept, content-put}
use Rattle.record_report.proofs.Contents.{length-bytes, groups-few, packed-bytes, groups_told, unfit_told}
use Rattle.record_report.proofs.Makings.{told, not_a_record, made_by}
use Rattle.record_report.proofs.make.put.Goals as goal

-- the content as it was stored, between the other bytes
parts : (k : Kept) (set n g : ℕ) (xs l its : List ℕ) → n ≡ g → l ≡ its → length xs ≡ record_size → length its ≡ 14
    → front_bytes n k (location_kept k) ++ (content_in (put_mid 16 14 xs l) ++ tail_bytes k.service (location_kept k) set) ≡ front_bytes g k (location_kept k) ++ (its ++ tail_bytes k.service (location_kept k) set)
parts k set n g xs l its e f long size =
    ap₂ (λ (m : ℕ) (b : List ℕ). front_bytes m k (location_kept k) ++ (content_in (put_mid 16 14 xs b) ++ tail_bytes k.service (location_kept k) set)) e f
    ∙ ap (λ (b : List ℕ). front_bytes g k (location_kept k) ++ (b ++ tail_bytes k.service (location_kept k) set)) (content-put xs its long size)

pub returns-then-r-ne-SIZE : goal.returns-then-r-ne-SIZE
returns-then-r-ne-SIZE c = let a = c.args in let both = not_a_record a.r.now a.kept a.classes.0 c.if-r-ne-SIZE.true in record { value = both.0; r_after = both.1 }

pub returns-then-not-marks_fit : goal.returns-then-not-marks_fit
returns-then-not-marks_fit c =
    let a = c.args in
    let both = made_by a.r.now a.kept a.classes.0 false (report_fits a.kept.report) c.if-r-ne-SIZE.false (sym c.marks_fit.ensures ∙ c.if-not-marks_fit.true) refl in
    record { value = both.0; r_after = both.1 }

pub returns-in_err-groups : goal.returns-in_err-groups
returns-in_err-groups c =
    let a = c.args in
    let long = c.if-r-ne-SIZE.false in
    let no = unfit_told a.kept.report (take 14 (drop 16 a.r.now)) (length-content a.r.now long) c.in_err-groups.field-0.0 c.in_err-groups.ensures.value in
    let way = made_by a.r.now a.kept a.classes.0 true false long (sym c.marks_fit.ensures ∙ c.if-not-marks_fit.false) no.0 in
    record {
      value = told c.from_residual.result c.in_err-groups.field-0.0 c.from_residual.ensures.1 ∙ ap Err no.1 ∙ way.0;
      r_after = ap (put_mid 16 14 a.r.now) (c.in_err-groups.ensures.out_after ∙ no.2) ∙ part_kept a.r.now ∙ way.1;
    }

pub overflow_cast-groups : goal.overflow_cast-groups
overflow_cast-groups c =
    let a = c.args in
    let yes = groups_told a.kept.report (take 14 (drop 16 a.r.now)) (length-content a.r.now c.if-r-ne-SIZE.false) c.in_ok-groups.groups c.in_ok-groups.ensures.value in
    omega (arith, yes.1, groups-few a.kept.report yes.0)

pub returns : goal.returns
unfolding record_of
returns c =
    let a = c.args in
    let k = a.kept in
    let xs = a.r.now in
    let long = c.if-r-ne-SIZE.false in
    let out = take 14 (drop 16 xs) in
    let yes = groups_told k.report out (length-content xs long) c.in_ok-groups.groups c.in_ok-groups.ensures.value in
    let bs = c.in_ok-groups.ensures.out_after ∙ packed-bytes k.report yes.0 out (length-content xs long) in
    let its = bytes_of (listed k.report.items) in
    let way = made_by xs k a.classes.0 true true long (sym c.marks_fit.ensures ∙ c.if-not-marks_fit.false) yes.0 in
    record { value = way.0; r_after = c.put_fields.ensures ∙ parts k a.classes.0 _ _ xs _ its yes.1 bs long (length-bytes (listed k.report.items)) ∙ way.1 }
