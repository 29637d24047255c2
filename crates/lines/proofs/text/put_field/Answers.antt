-- A space and then the number.
use native.Mathlib.Omega.{arith}
use mathlib.Core.List.{[], ◌∷◌}
use Rattle.lines.specs.Decimal.{decimal}
use Rattle.lines.specs.Line.{space}
use Rattle.lines.proofs.Puts.{put_then}
use Rattle.lines.proofs.text.put_field.Goals as goal

pub returns-clause-put : goal.returns-clause-put
returns-clause-put c =
    let a = c.args in
    put_then a.at (space ∷ []) (decimal a.n) a.out.now (omega (arith, c.requires)) c.put_byte-next.ensures c.put_decimal.ensures
