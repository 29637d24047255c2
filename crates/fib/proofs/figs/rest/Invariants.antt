-- What follows the FIGs of the bytes that are left follows those of all.
use mathlib.Core.Path.{◌≡◌}
use lib.ListN.{length}
use Rattle.fib.specs.Figs.{rest}
use Rattle.fib.proofs.figs.rest.Given as goal

abbrev pub invariant-loop-n : goal.invariant-loop-n
invariant-loop-n l = rest l.left ≡ rest l.s

abbrev pub decreases-loop-n : goal.decreases-loop-n
decreases-loop-n l = length l.left
