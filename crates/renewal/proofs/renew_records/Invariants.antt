use Rattle.std.proofs.Common.{◌≡◌}
use Rattle.lent.specs.Records.{chunks}
use Rattle.table.specs.Records.{count_if}
use Rattle.table.specs.Effect.{used}
use Rattle.table.proofs.Sweeps.{swept}
use Rattle.renewal.specs.Renewal.{renewed}
use Rattle.renewal.proofs.renew_records.Given as goal

abbrev pub invariant-loop-i : goal.invariant-loop-i
invariant-loop-i l = (l.t ≡ swept (renewed l.catalogue) l.i l.initial.t) × (l.used ≡ count_if used (chunks l.i l.initial.t))
