-- The cells before i hold the first groups, and the rest of the bits is what follows them.
use Prim.Native.Nat.{ℕ, ◌^◌, ◌<◌}
use mathlib.Core.Path.{sym, subst}
use native.Mathlib.Numerals.{add-one}
use native.Mathlib.Omega.{arith}
use Rattle.bits.proofs.Value.{val-take_lt}
use Rattle.content.specs.Halves.{bits_of}
use Rattle.content.specs.Packing.{group_bits}
use Rattle.content.proofs.Halves.{length-bits_of}
use Rattle.report_write.specs.Write.{tail_word}
use Rattle.report_write.proofs.Tail.{made_none, made_more, made_all, same_word, later-fits, moved}
use Rattle.report_write.proofs.put_tail.Goals as goal

pub loop-i-init : goal.loop-i-init
loop-i-init c = made_none _ _ _

pub overflow_cast-bits : goal.overflow_cast-bits
overflow_cast-bits c = omega (arith, c.first_bits-bits.ensures, val-take_lt group_bits (bits_of c.loop-i.rest))

pub later_number-requires : goal.later_number-requires
later_number-requires c =
    let l = c.loop-i in
    let small = subst (λ (n : ℕ). n < 2 ^ group_bits) (sym c.first_bits-bits.ensures) (val-take_lt group_bits (bits_of l.rest)) in
    later-fits _ _ _ _ small c.requires.0 (omega arith) (omega arith)

pub loop-i-preserved : goal.loop-i-preserved
unfolding tail_word
loop-i-preserved c =
    let l = c.loop-i in
    rw add-one
    (made_more c.args.ci c.args.out.now (bits_of c.args.content) l.out (bits_of l.rest) l.i l.invariant c.requires.1 (length-bits_of c.args.content)
    c.later_number.result (bits_of c.shifted_left-rest.result) c.loop-i-test.true
    (same_word _ _ _ _ _ _ _ c.later_number.ensures c.first_bits-bits.ensures (omega arith))
    (moved l.rest c.shifted_left-rest.result c.shifted_left-rest.ensures))

pub returns : goal.returns
returns c =
    let l = c.loop-i in
    made_all c.args.ci c.args.out.now (bits_of c.args.content) l.out (bits_of l.rest) l.i l.invariant c.requires.1 (length-bits_of c.args.content) c.loop-i-test.false
