-- Each way out.
use Prim.Native.Nat.{◌/◌, ◌<◌}
use native.Mathlib.Omega.{arith}
use mathlib.Core.Path.{◌≡◌, sym, ap, ◌∙◌}
use mathlib.Core.Bool.{true}
use lib.ListN.{length}
use borrow.Author.Tests.{lt-leb}
use Rattle.bits.proofs.Choice.{chosen, passed_over}
use Rattle.record.specs.Layout.{record_size, free_record}
use Rattle.record.specs.WellFormed.{well_formed}
use Rattle.record_report.specs.Reads.{reading_in, reading_of}
use Rattle.record_report.proofs.Readings.{fit_reading}
use Rattle.lent.specs.Records.{records}
use Rattle.lent.specs.Table.{table_fits}
use Rattle.lent.proofs.Passes.{nth, part_is, length_nth}
use Rattle.lent.proofs.Lents.{table_records, chunk_at, all_at}
use Rattle.table.specs.Read.{record_at}
use Rattle.table.proofs.Sweeps.{length-records}
use Rattle.table.proofs.Table.read.Goals as goal

pub returns : goal.returns
unfolding record_at records
returns c =
    let a = c.args in
    let t = a.t.now in
    let on : table_fits t ≡ true = sym c.table_fits.ensures ∙ c.if-not-table_fits.false in
    let h : a.i < length t / record_size = c.if-t-i.false in
    let fit : well_formed (nth t a.i) ≡ true = ap well_formed (sym (chunk_at (length t / record_size) a.i t h)) ∙ all_at well_formed (records t) a.i free_record (table_records t on) (omega (arith, h, length-records t)) in
    c.read.ensures
    ∙ ap reading_of (part_is t a.i)
    ∙ fit_reading (nth t a.i) (length_nth t a.i h) fit
    ∙ ap reading_in (sym (chunk_at (length t / record_size) a.i t h))
    ∙ sym (chosen _ _ _ on ∙ passed_over _ _ _ (lt-leb (length t / record_size) a.i h))
