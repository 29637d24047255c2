use Prim.Native.Nat.{◌+◌, ◌-◌, ◌<◌}
use mathlib.Core.Path.{◌≡◌}
use mathlib.Core.Bool.{true}
use Rattle.record.specs.Layout.{record_size}
use Rattle.record.specs.WellFormed.{well_formed}
use Rattle.record.proofs.Tested.{Passed}
use Rattle.record.proofs.Zeros.{Bytes}
use Rattle.lent.specs.Records.{records, all_of}
use Rattle.lent.proofs.table.records_fit.Given as goal

abbrev pub invariant-records : goal.invariant-records
invariant-records l =
    let it = l.r-iterator in
    (l.fit ≡ true) × (it.size ≡ record_size) × Bytes it.rest.now × (all_of well_formed (records l.t) ≡ all_of well_formed (records it.rest.now))

abbrev pub invariant-loop-j : goal.invariant-loop-j
invariant-loop-j l = (l.fit ≡ true) × (l.j < record_size + 8) × Passed l.r l.j

abbrev pub decreases-loop-j : goal.decreases-loop-j
decreases-loop-j l = record_size + 8 - l.j
