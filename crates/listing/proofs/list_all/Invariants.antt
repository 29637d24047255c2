-- The bytes at hand lie in the input buffer, and what is written in the end stays the same.
use Rattle.std.proofs.Common.{◌≤◌, length}
use Rattle.listing.specs.Owed.{HaveRoom, KeepsOwed}
use Rattle.listing.proofs.list_all.Given as goal

abbrev pub invariant-loop : goal.invariant-loop
invariant-loop g l =
    (l.state.from ≤ l.state.end)
    × (l.state.end ≤ length l.input)
    × (HaveRoom l.fn.input l.fn.out → KeepsOwed l.initial.state l.fn.input (g.R.Read.remaining l.fn.reader) (g.W.Write.contents l.fn.writer) l.state l.input (g.R.Read.remaining l.reader) (g.W.Write.contents l.writer))
