-- The header lies at the front of the buffer.
use Rattle.std.proofs.Common.{◌≡◌, sym, ap₂, ◌∙◌, subst, ℕ, ◌+◌, arith, List, length, take, drop, length-take-le}
use Rattle.std.proofs.Math.Seq.{take-append_seam}
use Rattle.std.specs.Io.KnownBytes.{Appends}
use Rattle.lines.specs.Line.{header}
use Rattle.lines.specs.Text.{put}
use Rattle.listing.proofs.Owing.{on_ok}
use Rattle.listing.proofs.print_header.Goals as goal

put_first : (t l : List ℕ) → take (length t) (put 0 t l) ≡ t
unfolding put
put_first t l = take-append_seam t (drop (0 + length t) l)

pub slice_bounds-write-end : goal.slice_bounds-write-end
unfolding header
slice_bounds-write-end g c = omega (arith, c.put_header-end.ensures.0, c.put_header-end.auto.out, c.requires)

pub slice_bounds-write-end-2 : goal.slice_bounds-write-end-2
slice_bounds-write-end-2 g c = sym (length-take-le _ _ (slice_bounds-write-end g c))

pub returns-clause-written : goal.returns-clause-written
returns-clause-written g c =
    let put = c.put_header-end in
    on_ok c.write.result (λ u w.
    subst (λ (t : List ℕ). Appends (g.W.Write.contents c.args.writer.now) (g.W.Write.contents c.write.new.writer) t)
    (ap₂ take (let at : put.result ≡ length header = omega (arith, put.ensures.0) in at) put.ensures.1 ∙ put_first header c.args.out.now) w)
    c.write.ensures.written
