-- The words before m, and 0 after them.
use Prim.Native.Nat.{◌+◌, ◌*◌}
use native.Mathlib.Omega.{arith}
use mathlib.Core.Path.{sym, ◌∙◌}
use lib.ListN.{drop}
use Rattle.bits.specs.Fields.{flat}
use Rattle.drm.proofs.Front.{field_lt}
use Rattle.drm.proofs.Body.{word_at, word-past}
use Rattle.drm.proofs.read.system_word.Goals as goal

pub overflow_cast-result : goal.overflow_cast-result
overflow_cast-result c =
    let p = c.args.p.now in
    omega (arith, c.bits_at.ensures, field_lt (c.args.at + c.args.i * 16) 16 (flat 8 p))

pub returns-then-i-m : goal.returns-then-i-m
returns-then-i-m c =
    let a = c.args in
    c.bits_at.ensures ∙ sym (word_at a.at a.m a.i (flat 8 a.p.now) c.if-i-m.true)

pub returns-else-i-m : goal.returns-else-i-m
returns-else-i-m c =
    let a = c.args in
    sym (word-past 16 a.m a.i (drop a.at (flat 8 a.p.now)) c.if-i-m.false)
