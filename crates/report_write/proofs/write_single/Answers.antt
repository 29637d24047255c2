-- The one word goes into the first cell.
use Rattle.bits.proofs.Choice.{and_left}
use Rattle.report.specs.Fits.{single_fits}
use Rattle.report_write.proofs.write_single.Goals as goal

pub single_number-requires : goal.single_number-requires
unfolding single_fits
single_number-requires c = and_left _ _ c.requires
