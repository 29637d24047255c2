-- What is written is read: the content of writable items holds them.
use Prim.Native.Nat.{ℕ, ◌+◌, ◌-◌, ◌≤◌}
use native.Mathlib.Omega.{arith}
use mathlib.Core.Path.{◌≡◌, refl, ap, ◌∙◌}
use mathlib.Core.Bool.{Bool, true, false, not}
use mathlib.Core.List.{List, [], ◌∷◌, ◌++◌, append_assoc}
use lib.ListN.{length, take, drop, length-append, length-replicate, length-drop}
use lib.Seq.{take_at, drop_at}
use lib.Dec.{leb}
use borrow.Author.Tests.{leb-true, not-true}
use Rattle.bits.specs.Bits.{all_zero}
use Rattle.std.specs.Prelude.{Ok}
use Rattle.content.specs.Items.{first, prepend, items}
use Rattle.content.specs.Content.{content_length, content}
use Rattle.content.specs.Packing.{zeros, packing, item_fits, all_fit, last_zero, longest, packable, writable, room, padded}
use Rattle.content.specs.declared.item.Item.{Item}
use Rattle.bits.proofs.Choice.{and_left, and_right}
use Rattle.content.proofs.ItemsLaw.{items-zero, items-item}
use Rattle.content.proofs.Zeros.{all_zero-zeros}
use Rattle.content.proofs.Lengths.{content-items, room_enough, room-length}
use Rattle.content.proofs.OneItem.{first-item_bits}
use Rattle.content.proofs.Packings.{packing-append, packing-set, last_zero-tail}

-- with zero bits after them, however many
pub packing-read : (its : List Item) (z : List Bool) → all_fit its ≡ true → last_zero its ≡ false → all_zero z ≡ true → items (packing its ++ z) ≡ Ok its
unfolding packing all_fit
packing-read [] z f h n = items-zero z n
packing-read (i ∷ its) z f h n =
    items-item (packing (i ∷ its) ++ z) i (packing its ++ z) (packing-set i its z f h)
    (ap first (packing-append i its z) ∙ first-item_bits i (and_left (item_fits i) (all_fit its) f) (packing its ++ z))
    ∙ ap (prepend i) (packing-read its z (and_right (item_fits i) (all_fit its) f) (last_zero-tail i its h) n)

module _ (its : List Item) (p : packable its ≡ true) where
  pub packable-fits : all_fit its ≡ true
  unfolding packable
  packable-fits = and_left (all_fit its) (leb (length (packing its)) longest) p

  pub packable_short : length (packing its) ≤ longest
  unfolding packable
  packable_short = leb-true (length (packing its)) longest (and_right (all_fit its) (leb (length (packing its)) longest) p)

module _ (its : List Item) (w : writable its ≡ true) where
  pub writable-packable : packable its ≡ true
  unfolding writable
  writable-packable = and_left (packable its) (not (last_zero its)) w

  pub writable_last : last_zero its ≡ false
  unfolding writable
  writable_last = not-true (last_zero its) (and_right (packable its) (not (last_zero its)) w)

pub length-padded : (l : List Bool) → length (padded l) ≡ room (length l)
unfolding padded
length-padded l =
    let n = length l in
    let h = room_enough n in
    let e : n + (room n - n) ≡ room n = omega arith in
    length-append l (zeros (room n - n)) ∙ ap (λ (m : ℕ). n + m) (length-replicate (room n - n) false) ∙ e

-- padded bits of at most five groups have the length of a content
pub padded-length : (l : List Bool) → length l ≤ longest → content_length (length (padded l)) ≡ true
padded-length l h = ap content_length (length-padded l) ∙ room-length (length l) h

-- with bits p before them, and with zero bits up to the end of the fewest groups
module _ (p : List Bool) (its : List Item) where
  abbrev zs : List Bool
  zs = zeros (room (length (p ++ packing its)) - length (p ++ packing its))

  pub padded_front : take (length p) (padded (p ++ packing its)) ≡ p
  unfolding padded
  padded_front = ap (take (length p)) (append_assoc p (packing its) zs) ∙ take_at p (packing its ++ zs) (length p) refl

  pub padded-rest : drop (length p) (padded (p ++ packing its)) ≡ packing its ++ zs
  unfolding padded
  padded-rest = ap (drop (length p)) (append_assoc p (packing its) zs) ∙ drop_at p (packing its ++ zs) (length p) refl

  pub written_is_read : writable its ≡ true → length (p ++ packing its) ≤ longest → content (drop (length p) (padded (p ++ packing its))) ≡ Ok its
  written_is_read w short =
      let n = length (p ++ packing its) in
      let h : length (drop (length p) (padded (p ++ packing its))) ≤ longest =
      omega (arith, length-drop (length p) (padded (p ++ packing its)), length-padded (p ++ packing its)) in
      content-items (drop (length p) (padded (p ++ packing its))) h
      ∙ ap items padded-rest
      ∙ packing-read its zs (packable-fits its (writable-packable its w)) (writable_last its w) (all_zero-zeros (room n - n))
