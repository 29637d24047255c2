-- The new content at the first free position.
use Rattle.assembler.specs.State.{contents_of}
use Rattle.assembler.proofs.States.{opened}
use Rattle.assembler.proofs.Turns.{one_more}
use Rattle.assembler.proofs.Partial.extended.Goals as goal

pub returns : goal.returns
unfolding contents_of
returns c =
    let a = c.args in
    let p = a.self in
    rw (c.put.ensures, c.put-2.ensures, c.put-3.ensures)
    (one_more p.ci p.head a.gsi p.count p.first p.second p.third a.content c.requires.0 (opened p c.requires.1).contents)
