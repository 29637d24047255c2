-- The parts of a line one after the other.
use Prim.Native.Nat.{◌≤◌}
use native.Mathlib.Omega.{arith}
use mathlib.Core.List.{[], ◌∷◌, ◌++◌}
use lib.ListN.{length}
use Rattle.lines.specs.Decimal.{decimal}
use Rattle.lines.specs.Line.{newline, fields, form_text, line}
use Rattle.lines.proofs.Puts.{put_then}
use Rattle.lines.proofs.line.put_line.Goals as goal

pub returns-clause-put : goal.returns-clause-put
unfolding line
returns-clause-put c =
    let a = c.args in
    let room : a.at ≤ length a.out.now = omega (arith, c.requires) in
    let first = put_then a.at (decimal a.number) (form_text a.form) a.out.now room c.put_decimal-next.ensures c.put_form-after.ensures in
    let second = put_then a.at (decimal a.number ++ form_text a.form) (fields a.values.now) a.out.now room first c.put_fields-end.ensures.put in
    put_then a.at (decimal a.number ++ form_text a.form ++ fields a.values.now) (newline ∷ []) a.out.now room second c.put_byte.ensures
