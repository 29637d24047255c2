use mathlib.Core.Path.{◌≡◌}
use lib.ListN.{take}
use Rattle.bits.specs.Fields.{flat}
use Rattle.bits.specs.Overlay.{overlay}
use Rattle.bits.proofs.run.put_words.Given as goal

abbrev pub invariant-loop-i : goal.invariant-loop-i
invariant-loop-i l = flat 8 l.s ≡ overlay l.at (flat l.w (take l.i l.ws)) (flat 8 l.initial.s)
