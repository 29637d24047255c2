use Prim.Native.Nat.{◌≤◌}
use mathlib.Core.Path.{◌≡◌}
use mathlib.Core.Bool.{true}
use lib.ListN.{drop}
use Rattle.content.specs.Packing.{packable}
use Rattle.content.specs.Stored.{limit, listed}
use Rattle.content.specs.Answers.{packed}
use Rattle.content.proofs.pack.pack.Given as goal

abbrev pub invariant-loop-i : goal.invariant-loop-i
invariant-loop-i l =
    (l.i ≤ l.items.count) × (l.items.count ≤ limit) × (packable (drop l.i (listed l.items)) ≡ true) × (l.packed ≡ packed (drop l.i (listed l.items)))
