-- What is read can be written: items that content holds are writable, and their content is the one read, up to groups of zero bits.
use Prim.Native.Nat.{ℕ, zero, suc, ◌+◌, ◌-◌, ◌≤◌, ◌<◌}
use native.Mathlib.Omega.{arith}
use mathlib.Core.Path.{◌≡◌, refl, sym, ap, ap₂, subst, ◌∙◌}
use mathlib.Core.Bool.{Bool, true, false, ◌&&◌, not, and-true}
use mathlib.Core.List.{List, [], ◌∷◌, ◌++◌, append_assoc}
use lib.ListN.{length, take, drop, length-append}
use lib.Dec.{leb}
use lib.Seq.{take-append-add, drop-append-add}
use borrow.Author.Tests.{leb-true, leb-false, le-leb}
use Rattle.bits.specs.Bits.{all_zero}
use Rattle.bits.proofs.Value.{all_zero-append}
use Rattle.std.specs.Prelude.{Ok, Err}
use Rattle.bits.proofs.Outcomes.{refused-gives-none}
use Rattle.bits.proofs.Choice.{either}
use Rattle.content.specs.Items.{First, first, Reading, prepend, items}
use Rattle.content.specs.Content.{content_length, content}
use Rattle.content.specs.Packing.{zeros, item_bits, packing, all_fit, zero_item, last_zero, longest, packable, writable, room, padded}
use Rattle.content.specs.declared.item.Item.{Item}
use Rattle.content.proofs.ItemsLaw.{items-zero, items-broken, items-item}
use Rattle.content.proofs.FirstLaw.{first-shorter}
use Rattle.content.proofs.Zeros.{zeros_of, take-zeros, all_zero-drop}
use Rattle.content.proofs.Lengths.{content-items, content-refused, room_enough, room_fewest}
use Rattle.content.proofs.OneItem.{first_fits, first-bits_front, all_zero-item_bits}
use Rattle.content.proofs.Packings.{packing-append}

-- items that fit, the last not the zero item, and zero bits after them
pub record PackedIn (l : List Bool) (its : List Item) : Type 0 where
  pub fit : all_fit its ≡ true
  pub last : last_zero its ≡ false
  pub spare : List Bool
  pub bits : l ≡ packing its ++ spare
  pub zero : all_zero spare ≡ true

packed_none : (l : List Bool) → all_zero l ≡ true → PackedIn l []
unfolding all_fit last_zero packing
packed_none l z = record { fit = refl; last = refl; spare = l; bits = refl; zero = z }

last_more : (l : List Bool) (i : Item) (rest : List Bool) (its : List Item) → all_zero l ≡ false → first l ≡ Ok (i, rest) → PackedIn rest its → last_zero (i ∷ its) ≡ false
unfolding last_zero packing
last_more l i rest [] n e h =
    let z : all_zero l ≡ zero_item i && true =
    ap all_zero (first-bits_front l i rest e)
    ∙ all_zero-append (item_bits i) rest
    ∙ ap₂ ◌&&◌ (all_zero-item_bits i (first_fits l i rest e)) (ap all_zero h.bits ∙ h.zero) in
    sym (and-true (zero_item i)) ∙ sym z ∙ n
last_more l i rest (j ∷ its) n e h = h.last

-- one item before those of the rest
packed_more : (l : List Bool) (i : Item) (rest : List Bool) (its : List Item) → all_zero l ≡ false → first l ≡ Ok (i, rest) → PackedIn rest its → PackedIn l (i ∷ its)
unfolding all_fit
packed_more l i rest its n e h = record {
  fit = ap₂ ◌&&◌ (first_fits l i rest e) h.fit;
  last = last_more l i rest its n e h;
  spare = h.spare;
  bits = first-bits_front l i rest e ∙ ap (λ (r : List Bool). item_bits i ++ r) h.bits ∙ sym (packing-append i its h.spare);
  zero = h.zero;
}

packed-after : (l : List Bool) (i : Item) (rest : List Bool) (r : Reading) (its : List Item) → all_zero l ≡ false → first l ≡ Ok (i, rest)
    → ((js : List Item) → r ≡ Ok js → PackedIn rest js) → prepend i r ≡ Ok its → PackedIn l its
packed-after l i rest (Ok js) its n e more h =
    let same : i ∷ js ≡ its = cc in
    subst (PackedIn l) same (packed_more l i rest js n e (more js refl))
packed-after l i rest (Err k) its n e more h = absurd (refused-gives-none h)

packed-first : (l : List Bool) (its : List Item) (x : First) → all_zero l ≡ false → first l ≡ x → items l ≡ Ok its
    → ((rest : List Bool) (js : List Item) → length rest < length l → items rest ≡ Ok js → PackedIn rest js) → PackedIn l its
packed-first l its (Ok (i, rest)) n e h more =
    packed-after l i rest (items rest) its n e (λ js k. more rest js (let s = first-shorter l i rest e in omega arith) k) (sym (items-item l i rest n e) ∙ h)
packed-first l its (Err b) n e h more = absurd (refused-gives-none (sym (items-broken l b n e) ∙ h))

-- by the number of bits
packed-within : (k : ℕ) (l : List Bool) (its : List Item) → length l < k → items l ≡ Ok its → PackedIn l its
packed-within zero l its b h = absurd (omega arith)
packed-within (suc k) l its b h =
    either (all_zero l)
    (λ z.
    let none : Ok [] ≡ Ok its = sym (items-zero l z) ∙ h in
    let same : [] ≡ its = cc in
    subst (PackedIn l) same (packed_none l z))
    (λ n. packed-first l its (first l) n refl h (λ rest js s. packed-within k rest js (omega arith)))

pub packed_in : (l : List Bool) (its : List Item) → items l ≡ Ok its → PackedIn l its
packed_in l its h = packed-within (suc (length l)) l its (omega arith) h

module _ (l : List Bool) (its : List Item) (p : PackedIn l its) where
  length-packed : length l ≡ length (packing its) + length p.spare
  length-packed = ap length p.bits ∙ length-append (packing its) p.spare

-- what at most 112 bits hold is writable
pub items-writable : (l : List Bool) (its : List Item) → length l ≤ longest → items l ≡ Ok its → writable its ≡ true
unfolding packable writable
items-writable l its short h =
    let p = packed_in l its h in
    let e = length-packed l its p in
    ap₂ (λ (a b : Bool). a && b) (ap₂ ◌&&◌ p.fit (le-leb (length (packing its)) longest (omega arith))) (ap not p.last)

module _ (l : List Bool) (its : List Item) (h : content l ≡ Ok its) where
  pub content_short : length l ≤ longest
  content_short = either (leb (length l) longest) (λ e. leb-true (length l) longest e) (λ e. absurd (refused-gives-none (sym (content-refused l (leb-false (length l) longest e)) ∙ h)))

  pub content_holds : items l ≡ Ok its
  content_holds = sym (content-items l content_short) ∙ h

-- what a whole content holds after bits p is written as that content, cut to the fewest groups
module _ (p l : List Bool) (its : List Item) (h : items l ≡ Ok its) (whole : content_length (length (p ++ l)) ≡ true) where
  abbrev n : ℕ
  n = length (p ++ packing its)

  found : PackedIn l its
  found = packed_in l its h

  all-bits : p ++ l ≡ (p ++ packing its) ++ found.spare
  all-bits = ap (λ (x : List Bool). p ++ x) found.bits ∙ sym (append_assoc p (packing its) found.spare)

  length-all : length (p ++ l) ≡ n + length found.spare
  length-all = ap length all-bits ∙ length-append (p ++ packing its) found.spare

  inside : room n ≤ length (p ++ l)
  inside = room_fewest n (length (p ++ l)) whole (let e = length-all in omega arith)

  spare_zeros : found.spare ≡ zeros (length found.spare)
  spare_zeros = zeros_of found.spare found.zero

  room_split : n + (room n - n) ≡ room n
  room_split = let r = room_enough n in omega arith

  pub read_is_written : padded (p ++ packing its) ≡ take (room n) (p ++ l)
  unfolding padded
  read_is_written =
      let e = length-all in
      let m = inside in
      sym (ap₂ take (sym room_split) all-bits
      ∙ take-append-add (p ++ packing its) found.spare (room n - n)
      ∙ ap (λ (z : List Bool). (p ++ packing its) ++ take (room n - n) z) spare_zeros
      ∙ ap (λ (z : List Bool). (p ++ packing its) ++ z) (take-zeros (room n - n) (length found.spare) (omega arith)))

  pub spare_is_zero : all_zero (drop (room n) (p ++ l)) ≡ true
  spare_is_zero =
      ap all_zero (ap₂ drop (sym room_split) all-bits ∙ drop-append-add (p ++ packing its) found.spare (room n - n))
      ∙ all_zero-drop (room n - n) found.spare found.zero
