-- Eight bytes are the number of their first four and that of their last four.
use Prim.Native.Nat.{ℕ, ◌+◌, ◌-◌, ◌*◌, ◌^◌}
use native.Mathlib.Omega.{arith}
use mathlib.Core.Path.{◌≡◌, ap, ap₂, ◌∙◌}
use lib.ListN.{length, take, drop, length-drop}
use Rattle.bits.specs.Bits.{val}
use Rattle.bits.specs.Fields.{flat}
use Rattle.bits.proofs.Loading.{load_parts, load_lt}
use Rattle.bits.proofs.bytes.load.Goals as goal

pub overflow_mul-result : goal.overflow_mul-result
overflow_mul-result c = omega (arith, c.fold.ensures, load_lt c.args.s.now 4 4 (omega arith) (omega arith))

pub overflow_add-result : goal.overflow_add-result
overflow_add-result c =
    let s = c.args.s.now in
    omega (arith, c.fold.ensures, c.fold-then-s-eq8.ensures, load_lt s 4 4 (omega arith) (omega arith), load_lt (drop 4 s) (length s - 4) 4 (omega (arith, length-drop 4 s)) (omega arith))

pub returns-then-s-eq8 : goal.returns-then-s-eq8
returns-then-s-eq8 c =
    let s = c.args.s.now in
    let rest : length s - 4 ≡ 4 = omega arith in
    ap₂ (λ (x y : ℕ). x * 2 ^ 32 + y) c.fold.ensures (c.fold-then-s-eq8.ensures ∙ ap (λ (n : ℕ). val (flat 8 (take n (drop 4 s)))) rest) ∙ load_parts s 4 4 (omega arith)
