-- A group in its turn that does not complete finds a free position.
use Rattle.assembler.proofs.Turns.{room}
use Rattle.assembler.proofs.advancing.advance_open.Goals as goal

pub extended-requires : goal.extended-requires
extended-requires c = room _ _ _ _ _ c.requires c.in_turn.ensures c.if-p-ci.true c.if-gsi-eq0.false
