-- The bits of the real location, and then the items of the rest.
use Prim.Native.Nat.{ℕ}
use native.Mathlib.Omega.{arith}
use mathlib.Core.Path.{sym, ap, ◌∙◌}
use lib.ListN.{take, drop}
use Rattle.std.specs.Prelude.{Err}
use Rattle.bits.specs.Bits.{val}
use Rattle.content.specs.Halves.{bits_of, remaining}
use Rattle.content.proofs.Lengths.{content_length_le}
use Rattle.report.specs.declared.Form.TheVariants.{Multi}
use Rattle.report.specs.declared.Unreadable.{Unreadable}
use Rattle.report.specs.Read.{Reading}
use Rattle.report.proofs.Places.{place_small, real_lt}
use Rattle.report.proofs.Wholes.{length_between, kept_read, kept-refused}
use Rattle.report.proofs.Report.multi.Goals as goal

pub returns-then-not-is_length : goal.returns-then-not-is_length
returns-then-not-is_length c =
    let a = c.args in
    ap (λ (x : Unreadable). let y : Reading = Err x in y) c.into.ensures
    ∙ kept-refused a.head a.content a.size (sym c.is_length.ensures ∙ c.if-not-is_length.true)

pub tail-rest-requires : goal.tail-rest-requires
tail-rest-requires c =
    let a = c.args in
    let size = length_between a.size (sym c.is_length.ensures ∙ c.if-not-is_length.false) in
    let small = place_small Multi a.head in
    let at = c.items_at-at.ensures in
    (omega arith, omega arith, omega arith)

pub head-requires : goal.head-requires
head-requires c =
    let a = c.args in
    let size = length_between a.size (sym c.is_length.ensures ∙ c.if-not-is_length.false) in
    let small = place_small Multi a.head in
    let at = c.items_at-at.ensures in
    (omega arith, omega arith)

pub overflow_cast-head : goal.overflow_cast-head
unfolding remaining
overflow_cast-head c =
    let a = c.args in
    let real = c.head.ensures ∙ ap (λ (n : ℕ). val (take n (take a.size (bits_of a.content)))) c.items_at-at.ensures in
    omega (arith, real, real_lt Multi a.head (take a.size (bits_of a.content)))

pub read_items-requires : goal.read_items-requires
read_items-requires c =
    let a = c.args in
    let short = content_length_le a.size (sym c.is_length.ensures ∙ c.if-not-is_length.false) in
    let t = c.tail-rest.ensures.1 in
    λ h. (omega arith, omega arith)

pub returns : goal.returns
unfolding remaining
returns c =
    let a = c.args in
    let at = c.items_at-at.ensures in
    let kept = take a.size (bits_of a.content) in
    c.read_items.ensures
    ∙ (kept_read a.head a.content a.size _ _
    (sym c.is_length.ensures ∙ c.if-not-is_length.false)
    (c.head.ensures ∙ ap (λ (n : ℕ). val (take n kept)) at)
    (c.tail-rest.ensures.0 ∙ ap (λ (n : ℕ). drop n kept) at))
