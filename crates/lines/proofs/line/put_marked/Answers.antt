-- The parts of a line one after the other.
use Prim.Native.Nat.{◌≤◌}
use native.Mathlib.Omega.{arith}
use mathlib.Core.List.{[], ◌∷◌, ◌++◌}
use lib.ListN.{length}
use Rattle.lines.specs.Line.{newline, fields, marked}
use Rattle.lines.proofs.Puts.{put_then}
use Rattle.lines.proofs.line.put_marked.Goals as goal

pub returns-clause-put : goal.returns-clause-put
unfolding marked
returns-clause-put c =
    let a = c.args in
    let room : a.at ≤ length a.out.now = omega (arith, c.requires) in
    let first = put_then a.at (33 ∷ []) (fields a.values.now) a.out.now room c.put_byte-next.ensures c.put_fields-end.ensures.put in
    put_then a.at ((33 ∷ []) ++ fields a.values.now) (newline ∷ []) a.out.now room first c.put_byte.ensures
