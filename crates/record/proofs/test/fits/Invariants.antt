use Prim.Native.Nat.{◌+◌, ◌-◌, ◌<◌}
use mathlib.Core.Path.{◌≡◌}
use lib.ListN.{length}
use Rattle.record.specs.Layout.{record_size}
use Rattle.record.proofs.Tested.{Passed}
use Rattle.record.proofs.test.fits.Given as goal

abbrev pub invariant-loop-j : goal.invariant-loop-j
invariant-loop-j l = (l.j < record_size + 8) × (0 < l.j → length l.r ≡ record_size) × Passed l.r l.j

abbrev pub decreases-loop-j : goal.decreases-loop-j
decreases-loop-j l = record_size + 8 - l.j
