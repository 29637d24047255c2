-- The record of a report that the checks take.
use Prim.Native.Nat.{ℕ}
use mathlib.Core.Path.{◌≡◌, ap, ap₂}
use mathlib.Core.Bool.{Bool, true, ◌&&◌}
use mathlib.Core.List.{List}
use lib.IntN.{ℤ}
use borrow.Author.Tests.{le-leb}
use Rattle.bits.proofs.Choice.{and_left, and_right}
use Rattle.report.specs.Fits.{report_fits}
use Rattle.clock.specs.Time.{offset_fits}
use Rattle.record.specs.Services.{service_fits}
use Rattle.record.specs.WellFormed.{well_formed}
use Rattle.record_report.specs.Made.{can_make}
use Rattle.record_report.proofs.MadeFits.{made_fits}
use Rattle.lent.specs.declared.catalogue.Kind.TheVariants.{Ordinary}
use Rattle.lent.specs.Catalogue.{classed}
use Rattle.lent.proofs.Lents.{lent_catalogue}
use Rattle.classes.specs.Classes.{set_for}
use Rattle.classes.proofs.ReportSets.{set_small, set-fits}
use Rattle.checks.specs.declared.Arrival.{Arrival}
use Rattle.checks.specs.Events.{kind_for, expiry_for}
use Rattle.checks.specs.Checks.{asked_fit}
use Rattle.checks.proofs.Checked.{Checked, asked_report, ends}
use Rattle.table.specs.Take.{kept_of, record_for}

module _ (t c l : List ℕ) (last : ℕ) (a : Arrival) (lto : ℤ) (ok : Checked t c l last a lto) where
  pub can_make_lem : kind_for c a.report ≡ Ordinary → can_make (kept_of c l a lto) (set_for c a.report) ≡ true
  unfolding can_make asked_fit
  can_make_lem kind =
      let both : (x y : Bool) → x ≡ true → y ≡ true → x && y ≡ true = λ x y e f. ap₂ (λ (u v : Bool). u && v) e f in
      let service = and_left (service_fits a.service) (offset_fits lto) (and_right (report_fits a.report) (service_fits a.service && offset_fits lto) ok.asked) in
      let set = set-fits c a.report (lent_catalogue t c l ok.lent) (ap classed kind) in
      both _ _ (both _ _ service (both _ _ set (le-leb 1 (expiry_for c l a lto) (ends t c l last a lto ok).0))) (asked_report t c l last a lto ok.asked)

  pub record_fits : kind_for c a.report ≡ Ordinary → well_formed (record_for c l a lto) ≡ true
  record_fits kind = made_fits (kept_of c l a lto) (set_for c a.report) (can_make_lem kind) (set_small c a.report) (ends t c l last a lto ok).1
