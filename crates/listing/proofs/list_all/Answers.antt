-- Once the listing is at its end, nothing is due any more.
use Rattle.std.proofs.Common.{subst, List, ℕ}
use Rattle.std.specs.Prelude.{IfSome}
use Rattle.std.specs.Io.KnownBytes.{Appends}
use Rattle.std.proofs.lemmas.Bool.{not-true}
use Rattle.session.specs.declared.Session.{Session}
use Rattle.recording.specs.Listing.{lines_from}
use Rattle.listing.proofs.Owing.{all_written}
use Rattle.listing.proofs.list_all.Goals as goal

pub returns-then-not-state : goal.returns-then-not-state
returns-then-not-state g c = λ room yes.
    subst (λ (s : Session). IfSome (g.R.Read.remaining c.args.reader.now) (λ (xs : List ℕ). Appends (g.W.Write.contents c.args.writer.now) (g.W.Write.contents c.loop.writer) (lines_from s xs))) c.new.ensures
    (all_written _ c.loop.state c.args.input.now c.loop.input _ _ _ _ (c.loop.invariant.2 room) (not-true c.loop.state.more c.if-not-state.true))
