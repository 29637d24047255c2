use Rattle.std.proofs.Common.{◌≡◌, ◌+◌, ◌-◌, ◌*◌, ◌≤◌, drop}
use Rattle.std.specs.List.{position_or_len}
use Rattle.record.specs.Layout.{record_size, is_free}
use Rattle.lent.specs.Records.{chunks}
use Rattle.table.proofs.search.find_free.Given as goal

abbrev pub invariant-loop-i : goal.invariant-loop-i
invariant-loop-i l = (position_or_len is_free (chunks l.n l.t) ≡ l.i + position_or_len is_free (chunks (l.n - l.i) (drop (l.i * record_size) l.t))) × (l.i ≤ l.n)

abbrev pub decreases-loop-i : goal.decreases-loop-i
decreases-loop-i l = l.n - l.i
