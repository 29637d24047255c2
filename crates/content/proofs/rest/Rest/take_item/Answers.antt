-- Each exit is one answer of `first`.
use Prim.Native.Nat.{ℕ, ◌^◌, ◌<◌, ◌≤◌}
use native.Mathlib.Omega.{arith}
use mathlib.Core.Path.{◌≡◌, sym, ap₂, ◌∙◌}
use mathlib.Core.Bool.{Bool}
use mathlib.Core.List.{List}
use lib.ListN.{length, take, drop, length-drop}
use lib.Pow.{pow_mono}
use Rattle.std.specs.Prelude.{Ok, Err}
use Rattle.refusal.specs.declared.Refusal.{Refusal}
use Rattle.bits.specs.Bits.{val}
use Rattle.bits.proofs.Value.{val-take_lt}
use Rattle.content.specs.Widths.{label_width, width}
use Rattle.content.specs.Items.{First, broken, first}
use Rattle.content.specs.Halves.{remaining}
use Rattle.content.specs.declared.rest.Rest.{Rest}
use Rattle.content.specs.declared.rest.Broken.{Broken}
use Rattle.content.proofs.OneItem.{first_short, first-sublabelled, first_cut, first-whole}
use Rattle.content.proofs.Remaining.{length-remaining}
use Rattle.content.proofs.rest.Rest.take_item.Goals as goal

-- where no item begins, all bits are left
none_told : (r : Rest) (b : Broken) (refusal : Refusal) → r.left < 128 → (b.refusal ≡ refusal) × (b.left ≡ r.left) → first (remaining r) ≡ Err (broken refusal (length (remaining r)))
    → Err b ≡ first (remaining r)
none_told r b refusal h e f = ap₂ (λ (x : Refusal) (n : ℕ). let y : First = Err (broken x n) in y) e.0 (e.1 ∙ sym (length-remaining r h)) ∙ sym f

pub returns-then-self-lt-LABEL_WIDTH-clause-first : goal.returns-then-self-lt-LABEL_WIDTH-clause-first
returns-then-self-lt-LABEL_WIDTH-clause-first c =
    let s = c.args.self in
    let n = length-remaining s c.requires in
    none_told s c.broken.result _ c.requires c.broken.ensures (first_short (remaining s) (omega arith))

pub overflow_cast-label : goal.overflow_cast-label
overflow_cast-label c =
    let s = c.args.self in
    let n = length-remaining s c.requires in
    omega (arith, c.head-label.ensures, val-take_lt label_width (remaining s))

pub returns-then-label-eq-SUBLABELLED-clause-first : goal.returns-then-label-eq-SUBLABELLED-clause-first
returns-then-label-eq-SUBLABELLED-clause-first c =
    let s = c.args.self in
    let h = c.head-label in
    let n = length-remaining s c.requires in
    let b = c.broken-then-label-eq-SUBLABELLED in
    none_told s b.result _ c.requires b.ensures (first-sublabelled (remaining s) (omega arith) h.result h.ensures c.if-label-eq-SUBLABELLED.true)

pub returns-then-after-w-clause-first : goal.returns-then-after-w-clause-first
returns-then-after-w-clause-first c =
    let s = c.args.self in
    let n = length-remaining s c.requires in
    let t = c.tail-after.ensures in
    let w = c.width_of-w.ensures.0 in
    let b = c.broken-then-after-w in
    let short : length (drop label_width (remaining s)) < width c.head-label.result = omega (arith, length-drop label_width (remaining s)) in
    none_told s b.result _ c.requires b.ensures (first_cut (remaining s) (omega arith) c.head-label.result c.head-label.ensures c.if-label-eq-SUBLABELLED.false short)

pub overflow_cast-value : goal.overflow_cast-value
overflow_cast-value c =
    let v = c.tail-after.result in
    let w = c.width_of-w.result in
    let n : length (remaining v) ≡ v.left = length-remaining v (omega arith) in
    let m : 2 ^ w ≤ 2 ^ 16 = pow_mono {j = 16} (let h = c.width_of-w.ensures.1 in h) in
    omega (arith, c.head-value.ensures, val-take_lt w (remaining v))

pub returns-else-after-w-clause-first : goal.returns-else-after-w-clause-first
returns-else-after-w-clause-first c =
    let s = c.args.self in
    let n = length-remaining s c.requires in
    let t = c.tail-after.ensures in
    let w = c.width_of-w.ensures.0 in
    let fits : width c.head-label.result ≤ length (drop label_width (remaining s)) = omega (arith, length-drop label_width (remaining s)) in
    ap₂ (λ (v : ℕ) (rest : List Bool). let f : First = Ok (record { label = c.head-label.result; value = v }, rest) in f)
    (c.head-value.ensures ∙ ap₂ (λ (k : ℕ) (l : List Bool). val (take k l)) w t.0)
    (c.tail.ensures.0 ∙ ap₂ drop w t.0)
    ∙ sym (first-whole (remaining s) (omega arith) c.head-label.result c.head-label.ensures c.if-label-eq-SUBLABELLED.false fits)
