use Rattle.std.proofs.Common.{◌≡◌}
use Rattle.record.specs.Gone.{expired, freed_if}
use Rattle.lent.specs.Records.{chunks}
use Rattle.table.specs.Records.{count_if}
use Rattle.table.proofs.Sweeps.{swept}
use Rattle.table.proofs.sweep.sweep_expired.Given as goal

abbrev pub invariant-loop-i : goal.invariant-loop-i
invariant-loop-i l = (l.t ≡ swept (freed_if (expired l.minute.0)) l.i l.initial.t) × (l.expired ≡ count_if (expired l.minute.0) (chunks l.i l.initial.t))
