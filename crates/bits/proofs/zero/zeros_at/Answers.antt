-- The stretches of 56 bits passed are zero, so all is zero exactly if what is left is.
use Prim.Native.Nat.{ℕ, ◌+◌, ◌-◌, ◌*◌, ◌/◌, ◌%◌, ◌≤◌}
use native.Mathlib.Omega.{arith}
use mathlib.Core.Path.{◌≡◌, sym, ap, ap₂, ◌∙◌}
use mathlib.Core.Bool.{Bool, ◌&&◌}
use mathlib.Core.List.{List}
use lib.ListN.{take, drop}
use lib.Seq.{take-add, drop-drop}
use lib.Dec.{eqb}
use borrow.Author.Tests.{eq-eqb, ne_eqb}
use Rattle.bits.specs.Bits.{val, all_zero}
use Rattle.bits.specs.Fields.{flat}
use Rattle.bits.specs.Overlay.{stretch}
use Rattle.bits.proofs.Value.{all_zero-append, all_zero-val}
use Rattle.bits.proofs.zero.zeros_at.Goals as goal

-- the first m bits of a stretch decide, and then the rest
cut : (l : List Bool) (p left m : ℕ) → m ≤ left → all_zero (stretch p left l) ≡ eqb (val (stretch p m l)) 0 && all_zero (stretch (p + m) (left - m) l)
cut l p left m h =
    let e : m + (left - m) ≡ left = omega arith in
    ap (λ (n : ℕ). all_zero (stretch p n l)) (sym e)
    ∙ ap all_zero (take-add m (left - m) (drop p l))
    ∙ all_zero-append (stretch p m l) (take (left - m) (drop m (drop p l)))
    ∙ ap₂ (λ (a : Bool) (b : List Bool). a && all_zero (take (left - m) b)) (all_zero-val (stretch p m l)) (drop-drop m p l)

pub returns-then-bits_at-ne0 : goal.returns-then-bits_at-ne0
returns-then-bits_at-ne0 c =
    let a = c.args in
    let l = c.loop-k in
    let p = a.at + l.k * 56 in
    let x = val (stretch p 56 (flat 8 a.s.now)) in
    sym (l.invariant
    ∙ cut (flat 8 a.s.now) p (a.n - l.k * 56) 56 (omega arith)
    ∙ ap (λ (b : Bool). b && all_zero (stretch (p + 56) (a.n - l.k * 56 - 56) (flat 8 a.s.now))) (ne_eqb x 0 (λ e. c.if-bits_at-ne0.true (c.bits_at.ensures ∙ e))))

pub loop-k-preserved : goal.loop-k-preserved
loop-k-preserved c =
    let a = c.args in
    let l = c.loop-k in
    let p = a.at + l.k * 56 in
    let x = val (stretch p 56 (flat 8 a.s.now)) in
    let next : p + 56 ≡ a.at + (l.k + 1) * 56 = omega arith in
    let left : a.n - l.k * 56 - 56 ≡ a.n - (l.k + 1) * 56 = omega arith in
    l.invariant
    ∙ cut (flat 8 a.s.now) p (a.n - l.k * 56) 56 (omega arith)
    ∙ ap (λ (b : Bool). b && all_zero (stretch (p + 56) (a.n - l.k * 56 - 56) (flat 8 a.s.now))) (eq-eqb x 0 (sym c.bits_at.ensures ∙ c.if-bits_at-ne0.false))
    ∙ ap₂ (λ (q m : ℕ). all_zero (stretch q m (flat 8 a.s.now))) next left

pub returns : goal.returns
returns c =
    let a = c.args in
    let l = c.loop-k in
    let last : l.k ≡ a.n / 56 = omega arith in
    let left : a.n - a.n / 56 * 56 ≡ a.n % 56 = omega arith in
    ap (λ (x : ℕ). eqb x 0) c.bits_at-2.ensures
    ∙ sym (all_zero-val (stretch (a.at + a.n / 56 * 56) (a.n % 56) (flat 8 a.s.now)))
    ∙ sym (l.invariant ∙ ap (λ (k : ℕ). all_zero (stretch (a.at + k * 56) (a.n - k * 56) (flat 8 a.s.now))) last ∙ ap (λ (m : ℕ). all_zero (stretch (a.at + a.n / 56 * 56) m (flat 8 a.s.now))) left)
