-- What cannot be written is refused; else the words of the form.
use mathlib.Core.Path.{◌≡◌, sym, ap₂, ◌∙◌}
use mathlib.Core.Bool.{Bool, true, false, ◌&&◌}
use Rattle.report_write.specs.Write.{can_write}
use Rattle.report_write.proofs.Forms.{single-fits, multi-fits, multi_index, single-written, multi-written, not_written}
use Rattle.report_write.proofs.write.Goals as goal

pub write_single-requires : goal.write_single-requires
unfolding can_write
write_single-requires c =
    let a = c.args in
    let ok : can_write a.ci a.report ≡ true = ap₂ (λ (x y : Bool). x && y) (sym c.fits.ensures) (sym c.index_fits.ensures) ∙ c.if-not-fits-index_fits.false in
    single-fits a.ci a.report ok c.in-Single.is

pub write_multi-requires : goal.write_multi-requires
unfolding can_write
write_multi-requires c =
    let a = c.args in
    let ok : can_write a.ci a.report ≡ true = ap₂ (λ (x y : Bool). x && y) (sym c.fits.ensures) (sym c.index_fits.ensures) ∙ c.if-not-fits-index_fits.false in
    (multi-fits a.ci a.report ok c.in-Multi.is, multi_index a.ci a.report ok c.in-Multi.is)

pub returns-in-Single : goal.returns-in-Single
unfolding can_write
returns-in-Single c =
    let a = c.args in
    let ok : can_write a.ci a.report ≡ true = ap₂ (λ (x y : Bool). x && y) (sym c.fits.ensures) (sym c.index_fits.ensures) ∙ c.if-not-fits-index_fits.false in
    let w = single-written a.ci a.report ok a.out.now c.in-Single.is in
    record { value = c.write_single.ensures.value ∙ w.0; out_after = c.write_single.ensures.out_after ∙ w.1 }

pub returns-in-Multi : goal.returns-in-Multi
unfolding can_write
returns-in-Multi c =
    let a = c.args in
    let ok : can_write a.ci a.report ≡ true = ap₂ (λ (x y : Bool). x && y) (sym c.fits.ensures) (sym c.index_fits.ensures) ∙ c.if-not-fits-index_fits.false in
    let w = multi-written a.ci a.report ok a.out.now c.in-Multi.is in
    record { value = c.write_multi.ensures.value ∙ w.0; out_after = c.write_multi.ensures.out_after ∙ w.1 }

pub returns-then-not-fits-index_fits : goal.returns-then-not-fits-index_fits
unfolding can_write
returns-then-not-fits-index_fits c =
    let a = c.args in
    let unfit : can_write a.ci a.report ≡ false = ap₂ (λ (x y : Bool). x && y) (sym c.fits.ensures) (sym c.index_fits.ensures) ∙ c.if-not-fits-index_fits.true in let both = not_written a.ci a.report unfit a.out.now in record { value = both.0; out_after = both.1 }
