-- Refused, free, or what the message says.
use Prim.Native.Nat.{ℕ, ◌≤◌}
use mathlib.Core.Path.{◌≡◌, sym, ap, ap₂, ◌∙◌}
use mathlib.Core.Bool.{true, ◌&&◌}
use mathlib.Core.List.{List}
use lib.ListN.{length}
use borrow.Author.Tests.{eqb-true}
use Rattle.std.specs.Prelude.{Option, Some, Result, Ok, Err}
use Rattle.bits.proofs.Choice.{and_left, and_right, chosen, passed_over}
use Rattle.report.specs.declared.Unreadable.{Unreadable}
use Rattle.record.specs.declared.Service.{Service}
use Rattle.record.specs.Layout.{record_size, is_record, byte_at, groups_in, service_in, expiry_in}
use Rattle.record.specs.WellFormed.{well_formed}
use Rattle.record.proofs.AsRecord.{as_it_is}
use Rattle.record.proofs.Ranges.{groups_range}
use Rattle.record_report.specs.declared.Kept.{Kept}
use Rattle.record_report.specs.Reads.{reading_in, reading_of}
use Rattle.record_report.proofs.Makings.{told}
use Rattle.record_report.proofs.Readings.{free_reading, used_gives}
use Rattle.record_report.proofs.read.read.Goals as goal

-- one well-formed record
module _ (r : List ℕ) (h : is_record r && well_formed r ≡ true) where
  sized : length r ≡ record_size
  sized = eqb-true (length r) record_size (and_left (is_record r) (well_formed r) h)

  readable : (byte_at r 0 ≡ 0 → ⊥) → (length r ≡ record_size) × (1 ≤ groups_in r) × (groups_in r ≤ 5)
  readable used = let g = groups_range r (and_right (is_record r) (well_formed r) h) used in (sized, g.0, g.1)

  reading : reading_in r ≡ reading_of r
  unfolding reading_of
  reading = sym (chosen _ _ _ h)

kept : Kept → Result (Option Kept) Unreadable
kept k = Ok (Some k)

pub returns-then-not-fits : goal.returns-then-not-fits
unfolding reading_of
returns-then-not-fits c = sym (passed_over _ _ _ (sym c.fits.ensures ∙ c.if-not-fits.true))

pub returns-then-r-eq0 : goal.returns-then-r-eq0
returns-then-r-eq0 c =
    let r = c.args.r.now in
    sym (free_reading r c.if-r-eq0.true) ∙ reading r (sym c.fits.ensures ∙ c.if-not-fits.false)

pub message-requires : goal.message-requires
message-requires c = readable c.args.r.now (sym c.fits.ensures ∙ c.if-not-fits.false) c.if-r-eq0.false

pub returns-in_err-report : goal.returns-in_err-report
returns-in_err-report c =
    told c.from_residual.result c.in_err-report.field-0.0 c.from_residual.ensures.1
    ∙ sym (used_gives c.args.r.now (Err c.in_err-report.field-0.0) (sym c.fits.ensures ∙ c.if-not-fits.false) c.if-r-eq0.false c.in_err-report.ensures)

pub returns : goal.returns
unfolding kept
returns c =
    let r = c.args.r.now in
    let x = c.in_ok-report.report in
    let known = sym c.fits.ensures ∙ c.if-not-fits.false in
    let same = as_it_is r (sized r known) in
    ap₂ (λ (s : Service) (n : ℕ). kept (record { report = x; service = s; expiry = record { 0 = n } })) (c.service.ensures ∙ ap service_in same) (c.expiry.ensures ∙ ap expiry_in same)
    ∙ sym (used_gives r (Ok x) known c.if-r-eq0.false c.in_ok-report.ensures)
