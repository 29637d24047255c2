use Rattle.std.proofs.Common.{◌≡◌}
use Rattle.record.specs.Layout.{record_size}
use Rattle.renewal.specs.Classes.{all_classed}
use Rattle.renewal.proofs.test.all_classed.Given as goal

-- the records that are left decide
abbrev pub invariant-loop-record : goal.invariant-loop-record
invariant-loop-record l = (l.record-iterator.size ≡ record_size) × (all_classed l.catalogue l.t ≡ all_classed l.catalogue l.record-iterator.rest.now)
