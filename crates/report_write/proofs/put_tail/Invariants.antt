use Rattle.content.specs.Halves.{bits_of}
use Rattle.report_write.proofs.Tail.{Made}
use Rattle.report_write.proofs.put_tail.Given as goal

abbrev pub invariant-loop-i : goal.invariant-loop-i
invariant-loop-i l = Made l.ci l.initial.out (bits_of l.initial.rest) l.out (bits_of l.rest) l.i
