-- Fewer than 64 bits are the highest of the first number.
use native.Mathlib.Omega.{arith}
use mathlib.Core.Path.{sym, ◌∙◌}
use Rattle.content.proofs.Halves.{val-first}
use Rattle.content.proofs.content.Content.first_bits.Goals as goal

pub returns : goal.returns
returns c =
    let a = c.args in
    c.top.ensures ∙ sym (val-first a.self (omega arith) (omega arith) a.w (omega arith))
