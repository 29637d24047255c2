-- No items found, and then those of the bits; more than the longest content is refused.
use Prim.Native.Nat.{ℕ, ◌≤◌}
use native.Mathlib.Omega.{arith}
use mathlib.Core.Path.{◌≡◌, ap, sym, ◌∙◌}
use mathlib.Core.List.{[]}
use lib.ListN.{take, length-take}
use Rattle.bits.specs.Outcome.{mapped}
use Rattle.content.specs.Items.{items}
use Rattle.content.specs.Content.{content}
use Rattle.content.specs.Packing.{longest}
use Rattle.content.specs.Halves.{bits_of, remaining}
use Rattle.content.specs.Stored.{filled, listed}
use Rattle.content.specs.declared.items.Items.{Items}
use Rattle.content.specs.declared.content.Content.{Content}
use Rattle.content.proofs.Halves.{length-bits_of}
use Rattle.content.proofs.Lengths.{content-items, content-refused}
use Rattle.content.proofs.Places.{listed-filled, refilled}
use Rattle.content.proofs.Reader.{all_found, broken_found}
use Rattle.content.proofs.read.read.Goals as goal

short : (c : Content) (n : ℕ) → n ≤ longest → content (take n (bits_of c)) ≡ items (take n (bits_of c))
short c n h = content-items (take n (bits_of c)) (omega (arith, length-take n (bits_of c)))

pub returns-then-size-gt-LONGEST : goal.returns-then-size-gt-LONGEST
returns-then-size-gt-LONGEST c =
    let a = c.args in
    ap (mapped filled) (sym (content-refused (take a.size (bits_of a.c)) (omega (arith, length-take a.size (bits_of a.c), length-bits_of a.c, c.if-size-gt-LONGEST.true))))

pub read_rest-requires : goal.read_rest-requires
unfolding filled
read_rest-requires c =
    let none : c.new-items.result.count ≡ 0 = ap (λ (s : Items). s.count) c.new-items.ensures in
    (omega (arith, c.if-size-gt-LONGEST.false), refilled [] c.new-items.result c.new-items.ensures)

pub returns-then-is_zero : goal.returns-then-is_zero
unfolding remaining
returns-then-is_zero c =
    let a = c.args in
    let none : listed c.new-items.result ≡ [] = ap listed c.new-items.ensures ∙ listed-filled [] in
    let e = c.read_rest.ensures in
    all_found _ _ _ _ none e.same e.kept (sym c.is_zero.ensures ∙ c.if-is_zero.true)
    ∙ sym (ap (mapped filled) (short a.c a.size c.if-size-gt-LONGEST.false))

pub returns-else-is_zero : goal.returns-else-is_zero
unfolding remaining
returns-else-is_zero c =
    let a = c.args in
    let none : listed c.new-items.result ≡ [] = ap listed c.new-items.ensures ∙ listed-filled [] in
    let e = c.read_rest.ensures in
    broken_found _ _ _ _ _ _ _ none e.same (sym c.is_zero.ensures ∙ c.if-is_zero.false) c.take_item.ensures.first c.unwrap_err.ensures c.into.ensures
    ∙ sym (ap (mapped filled) (short a.c a.size c.if-size-gt-LONGEST.false))
