use Rattle.std.proofs.Common.{◌≡◌, ◌*◌, ◌/◌, ◌≤◌, length, drop}
use Rattle.record.specs.Layout.{record_size}
use Rattle.table.proofs.Soonest.{Sought}
use Rattle.table.proofs.drop.find_soonest.Given as goal

abbrev pub invariant-loop-i : goal.invariant-loop-i
invariant-loop-i l =
    (l.i-iterator.iter.size ≡ record_size)
    × (l.i-iterator.iter.rest.now ≡ drop (l.i-iterator.count * record_size) l.t)
    × (l.i-iterator.count ≤ length l.t / record_size)
    × Sought l.t l.i-iterator.count l.place l.least
