-- Whether an item is found.
use mathlib.Core.Path.{ap, ◌∙◌}
use mir.Val.{bool_byte}
use Rattle.report.specs.Report.{is_diversion}
use Rattle.report.proofs.Searching.{some_found}
use Rattle.report.proofs.read.diversion.Goals as goal

pub returns : goal.returns
returns c = ap bool_byte c.diverts.ensures ∙ some_found is_diversion c.args.items.now
