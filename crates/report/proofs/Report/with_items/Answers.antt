-- The items are all of the content.
use native.Mathlib.Omega.{arith}
use Rattle.content.specs.Halves.{remaining}
use Rattle.report.proofs.Report.with_items.Goals as goal

pub read_items-requires : goal.read_items-requires
read_items-requires c = λ h. (omega arith, h)

pub returns : goal.returns
unfolding remaining
returns c = c.read_items.ensures
