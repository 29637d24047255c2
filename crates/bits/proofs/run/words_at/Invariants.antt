use mathlib.Core.Path.{◌≡◌}
use mathlib.Core.List.{◌++◌}
use lib.ListN.{drop}
use Rattle.bits.specs.Fields.{flat, words}
use Rattle.bits.proofs.run.words_at.Given as goal

abbrev pub invariant-loop-i : goal.invariant-loop-i
invariant-loop-i l = l.out ≡ words l.w l.i (drop l.at (flat 8 l.s)) ++ drop l.i l.initial.out
