-- The items are tested first; then the rest is the definition's.
use mathlib.Core.Path.{sym, ◌∙◌}
use Rattle.bits.proofs.Choice.{and_left}
use Rattle.report.proofs.Tests.{fit_count}
use Rattle.report.proofs.fits.multi_report_fits.Goals as goal

pub agrees-requires : goal.agrees-requires
agrees-requires c = fit_count _ (and_left _ _ (sym c.content_fits.ensures ∙ c.if-content_fits.true))
