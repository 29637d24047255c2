-- Fewer than 64 bits lie in the first number; of more, the first number is zero and so are the highest bits of the second.
use Prim.Native.Nat.{ℕ}
use native.Mathlib.Omega.{arith}
use mathlib.Core.Path.{sym, ap, ◌∙◌}
use mathlib.Core.Bool.{◌&&◌}
use lib.Dec.{eqb}
use Rattle.content.proofs.Halves.{zero-first, zero_beyond}
use Rattle.content.proofs.content.Content.starts_zero.Goals as goal

pub returns-then-n-lt64 : goal.returns-then-n-lt64
returns-then-n-lt64 c =
    let a = c.args in
    ap (λ (x : ℕ). eqb x 0) c.top.ensures ∙ sym (zero-first a.self (omega arith) (omega arith) a.n (omega arith))

pub returns-else-n-lt64 : goal.returns-else-n-lt64
returns-else-n-lt64 c =
    let a = c.args in
    ap (λ (x : ℕ). eqb a.self.high 0 && eqb x 0) c.top-else-n-lt64.ensures
    ∙ sym (zero_beyond a.self (omega arith) (omega arith) a.n (omega arith) (omega arith))
