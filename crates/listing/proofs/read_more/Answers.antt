-- What was read stands after what was kept.
use Rattle.std.proofs.Common.{◌≡◌, refl, sym, ap, ◌∙◌, ℕ, take, length, length-take-le, arith}
use Rattle.std.proofs.lemmas.Bool.{eqb-true, eqb-false}
use Rattle.listing.proofs.Owing.{read_hand, got_some}
use Rattle.listing.proofs.read_more.Goals as goal

pub returns-in-Ok-clause-reads : goal.returns-in-Ok-clause-reads
returns-in-Ok-clause-reads g c =
    let bytes = c.in-Ok.ensures.bytes in
    let bound = c.in-Ok.ensures.bound in
    let n = c.in-Ok.n in
    record {
      more = take n c.read.new.buf;
      same = refl;
      going = refl;
      hand = read_hand c.args.end n c.args.input.now c.read.new.buf _ c.requires bound.0;
      consumes = bytes.0;
      none = (λ e. ap (λ (m : ℕ). take m c.read.new.buf) (eqb-true n 0 e));
      some = (λ e z. eqb-false n 0 e (let size : length (take n c.read.new.buf) ≡ n = length-take-le n c.read.new.buf (omega arith) in sym size ∙ ap length z));
      ended = (λ e lt. bytes.1 (eqb-true n 0 e) (got_some c.args.end c.args.input.now c.read.new.buf lt));
    }
