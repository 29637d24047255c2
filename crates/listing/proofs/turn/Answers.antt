-- What a turn wrote comes off what is due.
use Rattle.std.proofs.Common.{arith, drop, length-take-le}
use Rattle.std.proofs.lemmas.List.{length-append, length-drop}
use Rattle.listing.proofs.Owing.{owes_less, due_ended, due_going, owes_read, hand_kept, on_ok}
use Rattle.listing.proofs.turn.Goals as goal

pub returns-then-progress-clause-owed : goal.returns-then-progress-clause-owed
returns-then-progress-clause-owed g c = λ room going.
    let p = c.list_bytes-progress in
    owes_less c.args.state c.closed.result c.args.input.now c.args.input.now _ _ _ _ (rw c.in_ok-write.was at c.write.ensures.written)
    (due_ended c.args.state c.args.input.now c.args.out.now p.result p.new.out going (p.ensures.listed room.1) c.closed.result c.if-progress.true c.closed.ensures.closed)

pub returns-then-progress-gt0-clause-owed : goal.returns-then-progress-gt0-clause-owed
returns-then-progress-gt0-clause-owed g c = λ room going.
    let p = c.list_bytes-progress in
    owes_less c.args.state _ c.args.input.now c.args.input.now _ _ _ _ (rw c.in_ok-write.was at c.write.ensures.written)
    (due_going c.args.state c.args.input.now c.args.out.now p.result p.new.out going (p.ensures.listed room.1) c.if-progress.false)

pub returns-clause-owed : goal.returns-clause-owed
returns-clause-owed g c = λ room going.
    let a = c.args in
    let p = c.list_bytes-progress in
    let k = c.keep-kept in
    on_ok c.read_more.result
    (λ s' reads.
    owes_read a.state a.input.now a.out.now p.result p.new.out going (p.ensures.listed room.1) c.if-progress.false (omega (arith, c.if-progress-gt0.false)) room.1 room.0 _ _ _ _ _ s' c.read_more.new.input
    (omega (arith, c.read_more.auto.input, k.auto.s, length-append k.new.s (drop a.state.end a.input.now), length-drop a.state.end a.input.now, length-take-le a.state.end a.input.now c.requires.1, c.requires))
    (hand_kept a.state.from a.state.end p.result.taken k.result _ a.input.now k.new.s (drop a.state.end a.input.now) c.requires.0 c.requires.1 p.ensures.within.0 k.ensures.value k.ensures.s_after)
    (rw c.in_ok-write.was at c.write.ensures.written)
    reads)
    c.read_more.ensures.reads
