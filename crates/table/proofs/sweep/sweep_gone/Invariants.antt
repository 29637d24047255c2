use Rattle.std.proofs.Common.{◌≡◌, ◌+◌}
use Rattle.record.specs.Matching.{matching}
use Rattle.record.specs.Gone.{expired, either, only_second, freed_if}
use Rattle.lent.specs.Records.{chunks}
use Rattle.table.specs.Records.{count_if}
use Rattle.table.proofs.Sweeps.{swept}
use Rattle.table.proofs.sweep.sweep_gone.Given as goal

abbrev pub invariant-loop-i : goal.invariant-loop-i
invariant-loop-i l =
    (l.t ≡ swept (freed_if (either (expired l.minute.0) (matching l.key))) l.i l.initial.t)
    × (l.unexpired + count_if (expired l.minute.0) (chunks l.i l.initial.t) ≡ l.records)
    × (l.matched ≡ count_if (only_second (expired l.minute.0) (matching l.key)) (chunks l.i l.initial.t))
