-- The first bits left are the first bits.
use native.Mathlib.Omega.{arith}
use mathlib.Core.Path.{sym, ap, ◌∙◌}
use Rattle.bits.specs.Bits.{val}
use Rattle.content.proofs.Remaining.{take_remaining}
use Rattle.content.proofs.rest.Rest.head.Goals as goal

pub returns : goal.returns
returns c =
    let a = c.args in
    c.first_bits.ensures ∙ ap val (sym (take_remaining a.self a.w (omega arith)))
