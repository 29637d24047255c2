-- The header, and then the lines.
use Rattle.std.proofs.Common.{arith}
use Rattle.session.specs.Session.{start}
use Rattle.lines.specs.Line.{header}
use Rattle.recording.specs.Listing.{listing, lines_from}
use Rattle.listing.proofs.Owing.{on_ok, text_then}
use Rattle.listing.proofs.list_recording.Goals as goal

pub returns : goal.returns
unfolding listing
returns g c =
    on_ok c.list_all.result
    (λ whole lines yes. text_then (g.R.Read.remaining c.args.reader.now) (g.W.Write.contents c.args.writer.now) _ _ header (lines_from start) (rw c.in_ok-print_header.was at c.print_header.ensures.written) (lines yes))
    (c.list_all.ensures (omega arith, omega arith))
