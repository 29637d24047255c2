-- The law by which `items` is to be read, `items_law`: content that is all zero has no items; otherwise the items are one item and then the
-- reading of the rest after one item.
use Prim.Native.Nat.{ℕ, zero, suc, ◌<◌}
use native.Mathlib.Omega.{arith}
use mathlib.Core.Path.{◌≡◌, refl, ap, ◌∙◌}
use mathlib.Core.Bool.{Bool, true, false}
use mathlib.Core.List.{List, []}
use lib.ListN.{length}
use Rattle.bits.specs.Bits.{all_zero}
use Rattle.std.specs.Prelude.{Ok, Err}
use Rattle.bits.proofs.Choice.{either}
use Rattle.content.specs.Items.{First, first, Reading, prepend, and_then, read_by, items_within, items}
use Rattle.content.specs.declared.item.Item.{Item}
use Rattle.content.specs.declared.rest.Broken.{Broken}
use Rattle.content.specs.declared.read.Unread.TheVariants as unread
use Rattle.content.proofs.FirstLaw.{first-shorter}

and_then-same : (x : First) (f g : List Bool → Reading) → ((i : Item) (rest : List Bool) → x ≡ Ok (i, rest) → f rest ≡ g rest) → and_then x f ≡ and_then x g
unfolding and_then
and_then-same (Ok (i, rest)) f g same = ap (prepend i) (same i rest refl)
and_then-same (Err b) f g same = refl

-- a reading asks its `next` only of shorter bits
read_by-same : (l : List Bool) (f g : List Bool → Reading) → ((rest : List Bool) → length rest < length l → f rest ≡ g rest) → read_by f l ≡ read_by g l
unfolding read_by
read_by-same l f g same =
    either (all_zero l)
    (λ h. rw (h, read_by))
    (λ h. rw (h, read_by) (and_then-same (first l) f g (λ i rest e. same rest (let s = first-shorter l i rest e in omega arith))))

-- a bound above the length is none
within_enough : (n m : ℕ) (l : List Bool) → length l < n → length l < m → items_within n l ≡ items_within m l
unfolding items_within
within_enough zero m l h k = absurd (omega arith)
within_enough (suc n) zero l h k = absurd (omega arith)
within_enough (suc n) (suc m) l h k = read_by-same l (items_within n) (items_within m) (λ rest s. within_enough n m rest (omega arith) (omega arith))

pub items_law : (l : List Bool) → items l ≡ read_by items l
unfolding items items_within
items_law l = read_by-same l (items_within (length l)) items (λ rest s. within_enough (length l) (suc (length rest)) rest (omega arith) (omega arith))

-- its three cases
pub items-zero : (l : List Bool) → all_zero l ≡ true → items l ≡ Ok []
unfolding read_by
items-zero l z = items_law l ∙ rw (z, read_by)

pub items-broken : (l : List Bool) (b : Broken) → all_zero l ≡ false → first l ≡ Err b → items l ≡ Err (unread.Broken b)
unfolding read_by and_then
items-broken l b z e = items_law l ∙ rw (z, read_by) (rw e)

pub items-item : (l : List Bool) (i : Item) (rest : List Bool) → all_zero l ≡ false → first l ≡ Ok (i, rest) → items l ≡ prepend i (items rest)
unfolding read_by and_then
items-item l i rest z e = items_law l ∙ rw (z, read_by) (rw e)
