-- The packer tests the items and tells their bits.
use Prim.Native.Nat.{ℕ, ◌+◌}
use native.Mathlib.Omega.{arith}
use mathlib.Core.Path.{sym, ap, ap₂, ◌∙◌}
use mathlib.Core.Bool.{Bool, ◌&&◌}
use lib.Dec.{leb}
use Rattle.content.specs.Packing.{longest}
use Rattle.report.specs.Fits.{content_fits}
use Rattle.report.proofs.Places.{place_small, length-content}
use Rattle.report.proofs.Tests.{packed-fits, packed_short, refused-unfit}
use Rattle.report.proofs.fits.content_fits.Goals as goal

pub overflow_add-result : goal.overflow_add-result
overflow_add-result c =
    let r = c.args.r in
    omega (arith, c.items_at.ensures, place_small r.form r.head, packed_short r.items c.in-Ok.packed c.in-Ok.ensures)

pub returns-in-Ok : goal.returns-in-Ok
unfolding content_fits
returns-in-Ok c =
    let r = c.args.r in
    let fit = packed-fits r.items c.in-Ok.packed c.in-Ok.ensures in
    ap (λ (n : ℕ). leb n longest) (ap₂ ◌+◌ c.items_at.ensures fit.1 ∙ sym (length-content r))
    ∙ sym (ap (λ (b : Bool). b && content_fits r) fit.0)

pub returns-in-Err : goal.returns-in-Err
returns-in-Err c =
    let r = c.args.r in
    sym (ap (λ (b : Bool). b && content_fits r) (refused-unfit r.items c.in-Err.field-0 c.in-Err.ensures))
