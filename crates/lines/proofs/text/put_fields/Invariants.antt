use Prim.Native.Nat.{◌+◌, ◌*◌, ◌≤◌}
use mathlib.Core.Path.{◌≡◌}
use lib.ListN.{length, take}
use Rattle.lines.specs.Text.{Put}
use Rattle.lines.specs.Line.{fields, field_room}
use Rattle.lines.proofs.text.put_fields.Given as goal

abbrev pub invariant-loop-value : goal.invariant-loop-value
invariant-loop-value l = record {
  put : Put l.at (fields (take l.value-index l.values)) l.initial.out l.end l.out;
  room : l.end ≤ l.at + field_room * l.value-index;
  same : length l.out ≡ length l.initial.out;
}
