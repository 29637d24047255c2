-- The duration and the diversion are those of the items.
use native.Mathlib.Omega.{arith}
use mathlib.Core.Path.{◌≡◌, ap, ◌∙◌}
use Rattle.content.specs.Stored.{listed}
use Rattle.report.specs.Report.{duration_of}
use Rattle.report.proofs.Messages.{duration_lt}
use Rattle.report.proofs.read.of_items.Goals as goal

pub overflow_cast-result : goal.overflow_cast-result
overflow_cast-result c =
    let used : c.duration.result ≡ duration_of (listed c.args.items) = c.duration.ensures ∙ ap duration_of c.listed-used.ensures in
    omega (arith, used, duration_lt (listed c.args.items) c.requires.1)
