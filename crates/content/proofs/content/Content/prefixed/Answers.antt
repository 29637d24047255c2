-- Both numbers are shifted, and the lowest bits of the first go into the second.
use Prim.Native.Nat.{ℕ, ◌+◌, ◌/◌, ◌^◌, ◌<◌}
use native.Mathlib.Omega.{arith}
use mathlib.Core.Path.{sym, ap₂, subst, ◌∙◌}
use Rattle.content.specs.declared.content.Content.{Content}
use Rattle.content.proofs.Halves.{raised_lt, prefixed}
use Rattle.content.proofs.content.Content.prefixed.Goals as goal

pub overflow_add-result : goal.overflow_add-result
overflow_add-result c =
    let a = c.args in
    let s = a.self in
    record {
      fits = subst (λ (x : ℕ). x + s.high / 2 ^ a.w < 2 ^ 64) (sym c.raised.ensures) (raised_lt s (omega arith) (omega arith) a.w (omega arith) a.v s.high (omega arith));
    }

pub overflow_add-result-2 : goal.overflow_add-result-2
overflow_add-result-2 c =
    let a = c.args in
    let s = a.self in
    record {
      fits = subst (λ (x : ℕ). x + s.low / 2 ^ a.w < 2 ^ 64) (sym c.raised-2.ensures) (raised_lt s (omega arith) (omega arith) a.w (omega arith) s.high s.low (omega arith));
    }

pub returns : goal.returns
returns c =
    let a = c.args in
    let s = a.self in
    ap₂ (λ (x y : ℕ). let d : Content = record { high = x + s.high / 2 ^ a.w; low = y + s.low / 2 ^ a.w } in d) c.raised.ensures c.raised-2.ensures
    ∙ prefixed s (omega arith) (omega arith) a.w (omega arith) a.v
