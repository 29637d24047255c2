-- Both numbers are shifted, and the highest bits of the second go into the first.
use Prim.Native.Nat.{ℕ, ◌+◌, ◌*◌, ◌%◌, ◌^◌, ◌<◌}
use native.Mathlib.Omega.{arith}
use mathlib.Core.Path.{sym, ap, subst, ◌∙◌}
use Rattle.content.specs.declared.content.Content.{Content}
use Rattle.content.proofs.Halves.{shifted_lt, shifted}
use Rattle.content.proofs.content.Content.shifted_left.Goals as goal

pub overflow_add-result : goal.overflow_add-result
overflow_add-result c =
    let a = c.args in
    let s = a.self in
    record {
      fits = subst (λ (x : ℕ). s.high * 2 ^ a.w % 2 ^ 64 + x < 2 ^ 64) (sym c.top.ensures) (shifted_lt s (omega arith) (omega arith) a.w (omega arith));
    }

pub returns : goal.returns
returns c =
    let a = c.args in
    let s = a.self in
    ap (λ (x : ℕ). let d : Content = record { high = s.high * 2 ^ a.w % 2 ^ 64 + x; low = s.low * 2 ^ a.w % 2 ^ 64 } in d) c.top.ensures
    ∙ shifted s (omega arith) (omega arith) a.w (omega arith)
