-- Where content breaks: the bits left with a refusal are exactly those that `BreaksAt` speaks of.
use Prim.Native.Nat.{ℕ, zero, suc, ◌+◌, ◌-◌, ◌≤◌, ◌<◌}
use native.Mathlib.Omega.{arith}
use mathlib.Core.Path.{◌≡◌, refl, sym, ap, ap₂, subst, ◌∙◌}
use mathlib.Core.Logic.{◌↔◌, ◌⊎◌, inl, inr}
use mathlib.Core.Bool.{Bool, true, false, ◌&&◌, and-false}
use mathlib.Core.List.{List, [], ◌∷◌, ◌++◌}
use lib.ListN.{length, take, drop, length-append, length-take, length-drop, take-append-drop, drop_of_length-le}
use lib.Seq.{take_at, drop_at, drop-drop, take-add, length-take-le}
use borrow.Author.Tests.{leb-true, leb-false}
use lib.Dec.{leb}
use Rattle.bits.specs.Bits.{all_zero}
use Rattle.std.specs.Prelude.{Ok, Err}
use Rattle.refusal.specs.declared.Refusal.{Refusal}
use Rattle.refusal.specs.declared.Refusal.TheVariants.{CutShort, Label15}
use Rattle.bits.proofs.Outcomes.{refused-gives-none}
use Rattle.bits.proofs.Value.{all_zero-append}
use Rattle.bits.proofs.Choice.{either, and_left, and_right}
use Rattle.content.specs.Items.{First, broken, first, Reading, prepend, items}
use Rattle.content.specs.Content.{content}
use Rattle.content.specs.Packing.{item_bits, packing, item_fits, all_fit, longest}
use Rattle.content.specs.Broken.{NoItem, no_label, no_value, label15, BreaksAt}
use Rattle.content.specs.declared.item.Item.{Item}
use Rattle.content.specs.declared.rest.Broken.{Broken}
use Rattle.content.specs.declared.read.Unread.{Unread}
use Rattle.content.specs.declared.read.Unread.TheVariants as unread
use Rattle.content.proofs.ItemsLaw.{items-zero, items-broken, items-item}
use Rattle.content.proofs.FirstLaw.{first-shorter, first-broken}
use Rattle.content.proofs.OneItem.{first_short, first-sublabelled, first_cut, first-item_bits, first_fits, first-bits_front}
use Rattle.content.proofs.Lengths.{content-items, content-refused}
use Rattle.content.proofs.Packings.{packing-append}

-- no item to take: none is taken
no_item : (l : List Bool) {refusal : Refusal} → NoItem l refusal → first l ≡ Err (broken refusal (length l))
no_item l (no_label short) = first_short l short
no_item l (no_value long plain short) = first_cut l long _ refl plain short
no_item l (label15 long is) = first-sublabelled l long _ refl is

same-unread : {u v : Unread} → ◌≡◌ {A = Reading} (Err u) (Err v) → u ≡ v
same-unread {u} {v} e = cc

-- items that fit, and then bits of which some is set and from which none is taken
record Stopped (l : List Bool) (u : Unread) : Type 0 where
  its : List Item
  rest : List Bool
  refusal : Refusal
  fit : all_fit its ≡ true
  bits : l ≡ packing its ++ rest
  set : all_zero rest ≡ false
  none : NoItem rest refusal
  told : u ≡ unread.Broken (broken refusal (length rest))

stopped_here : (l : List Bool) (b : Broken) → all_zero l ≡ false → first l ≡ Err b → Stopped l (unread.Broken b)
unfolding all_fit packing
stopped_here l b z e =
    let f = first-broken l b e in
    record { its = []; rest = l; refusal = b.refusal; fit = refl; bits = refl; set = z; none = f.0; told = ap (λ (n : ℕ). unread.Broken (broken b.refusal n)) f.1 }

stopped_later : (l : List Bool) (i : Item) (rest : List Bool) (u : Unread) → first l ≡ Ok (i, rest) → Stopped rest u → Stopped l u
unfolding all_fit
stopped_later l i rest u e b = record {
  its = i ∷ b.its;
  rest = b.rest;
  refusal = b.refusal;
  fit = ap₂ ◌&&◌ (first_fits l i rest e) b.fit;
  bits = first-bits_front l i rest e ∙ ap (λ (r : List Bool). item_bits i ++ r) b.bits ∙ sym (packing-append i b.its b.rest);
  set = b.set;
  none = b.none;
  told = b.told;
}

-- by the number of bits
stopped_within : (k : ℕ) (l : List Bool) (u : Unread) → length l < k → items l ≡ Err u → Stopped l u
stopped_within zero l u b h = absurd (omega arith)
stopped_within (suc k) l u b h =
    either (all_zero l)
    (λ z. absurd (refused-gives-none (sym h ∙ items-zero l z)))
    (λ z. by_first z (first l) refl (λ rest s. stopped_within k rest u (omega arith)))
  where
    by_rest : (i : Item) (rest : List Bool) (x : Reading) → items rest ≡ x → first l ≡ Ok (i, rest) → prepend i x ≡ Err u → (items rest ≡ Err u → Stopped rest u) → Stopped l u
    by_rest i rest (Ok its) r e p more = absurd (refused-gives-none (sym p))
    by_rest i rest (Err v) r e p more = stopped_later l i rest u e (more (r ∙ p))

    by_first : all_zero l ≡ false → (x : First) → first l ≡ x → ((rest : List Bool) → length rest < length l → items rest ≡ Err u → Stopped rest u) → Stopped l u
    by_first z (Ok (i, rest)) e more =
        by_rest i rest (items rest) refl e (sym (items-item l i rest z e) ∙ h) (more rest (let s = first-shorter l i rest e in omega arith))
    by_first z (Err b) e more = subst (Stopped l) (same-unread (sym (items-broken l b z e) ∙ h)) (stopped_here l b z e)

stopped : (l : List Bool) (u : Unread) → items l ≡ Err u → Stopped l u
stopped l u h = stopped_within (suc (length l)) l u (omega arith) h

-- and such bits are refused so
refused-after : (its : List Item) (rest : List Bool) (b : Broken) → all_fit its ≡ true → all_zero rest ≡ false → first rest ≡ Err b
    → items (packing its ++ rest) ≡ Err (unread.Broken b)
unfolding packing all_fit
refused-after [] rest b f z e = items-broken rest b z e
refused-after (i ∷ its) rest b f z e =
    let more = packing its ++ rest in
    let fits = and_left (item_fits i) (all_fit its) f in
    let some : all_zero (packing (i ∷ its) ++ rest) ≡ false =
    ap all_zero (packing-append i its rest)
    ∙ all_zero-append (item_bits i) more
    ∙ ap (λ (c : Bool). all_zero (item_bits i) && c) (all_zero-append (packing its) rest ∙ ap (λ (c : Bool). all_zero (packing its) && c) z ∙ and-false (all_zero (packing its)))
    ∙ and-false (all_zero (item_bits i)) in
    items-item (packing (i ∷ its) ++ rest) i more some (ap first (packing-append i its rest) ∙ first-item_bits i fits more)
    ∙ ap (prepend i) (refused-after its rest b (and_right (item_fits i) (all_fit its) f) z e)

-- the bits that are left break where they begin, and only such bits are refused
pub breaks : (l : List Bool) (refusal : Refusal) (left : ℕ)
    → items l ≡ Err (unread.Broken (broken refusal left)) ↔ ((left ≤ length l) × BreaksAt 0 l (length l - left) refusal)
breaks l refusal left = (there, back)
  where
    there : items l ≡ Err (unread.Broken (broken refusal left)) → (left ≤ length l) × BreaksAt 0 l (length l - left) refusal
    there h =
        let b = stopped l (unread.Broken (broken refusal left)) h in
        let told : unread.Broken (broken refusal left) ≡ unread.Broken (broken b.refusal (length b.rest)) = b.told in
        let same : broken refusal left ≡ broken b.refusal (length b.rest) = cc in
        let en : b.refusal ≡ refusal = sym (ap (λ (x : Broken). x.refusal) same) in
        let el : length b.rest ≡ left = sym (ap (λ (x : Broken). x.left) same) in
        let size = ap length b.bits ∙ length-append (packing b.its) b.rest in
        let place : length l - left ≡ length (packing b.its) = omega arith in
        let front : take (length l - left) l ≡ packing b.its = ap₂ take place b.bits ∙ take_at (packing b.its) b.rest _ refl in
        let behind : drop (length l - left) l ≡ b.rest = ap₂ drop place b.bits ∙ drop_at (packing b.its) b.rest _ refl in (
          omega arith,
          record {
            its = b.its;
            fit = b.fit;
            before = front;
            set = ap all_zero behind ∙ b.set;
            none = subst (λ (r : List Bool). NoItem r refusal) (sym behind) (subst (NoItem b.rest) en b.none);
          },
        )

    back : (left ≤ length l) × BreaksAt 0 l (length l - left) refusal → items l ≡ Err (unread.Broken (broken refusal left))
    back (h, b) =
        let p = length l - left in
        let el : length (drop p l) ≡ left = let d = length-drop p l in omega arith in
        ap items (sym (take-append-drop p l) ∙ ap (λ (x : List Bool). x ++ drop p l) b.before)
        ∙ refused-after b.its (drop p l) (broken refusal left) b.fit b.set (no_item (drop p l) b.none ∙ ap (λ (n : ℕ). let f : First = Err (broken refusal n) in f) el)

-- content in which an item cannot be taken is no longer than it may be
pub content-broken : (l : List Bool) (b : Broken) → content l ≡ Err (unread.Broken b) → (length l ≤ longest) × (items l ≡ Err (unread.Broken b))
content-broken l b h =
    either (leb (length l) longest)
    (λ e. let short = leb-true (length l) longest e in (short, sym (content-items l short) ∙ h))
    (λ e.
    let same : unread.TooLong ≡ unread.Broken b = same-unread (sym (content-refused l (leb-false (length l) longest e)) ∙ h) in
    absurd (let z : ◌≡◌ {A = ℕ} 0 1 = cc in omega arith))

-- a place is one of the bits
pub place_lt : (at : ℕ) (l : List Bool) (place : ℕ) (refusal : Refusal) → BreaksAt at l place refusal → place < length l
unfolding all_zero
place_lt at l place refusal b =
    either (leb (length l) place)
    (λ h.
    let none : all_zero (drop place l) ≡ true = ap all_zero (drop_of_length-le l (leb-true (length l) place h)) in
    absurd (let e : true ≡ false = sym none ∙ b.set in let z : ◌≡◌ {A = ℕ} 0 1 = cc in omega arith))
    (λ h. leb-false (length l) place h)

-- bits before the items are counted too
module _ (at : ℕ) (l : List Bool) (in-l : at ≤ length l) where
  front : length (take at l) ≡ at
  front = length-take-le at l in-l

  pub counted : (q : ℕ) (refusal : Refusal) → BreaksAt 0 (drop at l) q refusal → BreaksAt at l (at + q) refusal
  counted q refusal b =
      let behind = drop-drop q at l in
      record {
        its = b.its;
        fit = b.fit;
        before = take-add at q l ∙ ap (λ (x : List Bool). take at l ++ x) b.before;
        set = ap all_zero (sym behind) ∙ b.set;
        none = subst (λ (r : List Bool). NoItem r refusal) behind b.none;
      }

  -- and may be left out
  pub uncounted : (q : ℕ) (refusal : Refusal) → BreaksAt at l (at + q) refusal → BreaksAt 0 (drop at l) q refusal
  uncounted q refusal b =
      let behind = drop-drop q at l in
      let same : take at l ++ take q (drop at l) ≡ take at l ++ packing b.its = sym (take-add at q l) ∙ b.before in
      record {
        its = b.its;
        fit = b.fit;
        before = sym (drop_at (take at l) (take q (drop at l)) at front) ∙ ap (drop at) same ∙ drop_at (take at l) (packing b.its) at front;
        set = ap all_zero behind ∙ b.set;
        none = subst (λ (r : List Bool). NoItem r refusal) (sym behind) b.none;
      }

  pub place_after : (place : ℕ) (refusal : Refusal) → BreaksAt at l place refusal → at ≤ place
  place_after place refusal b =
      let size : length (take place l) ≡ length (take at l) + length (packing b.its) = ap length b.before ∙ length-append (take at l) (packing b.its) in
      omega (arith, front, size, length-take place l)

-- bits of an item are missing, or it has label 15
pub no_item_refusal : {l : List Bool} {refusal : Refusal} → NoItem l refusal → (refusal ≡ CutShort) ⊎ (refusal ≡ Label15)
no_item_refusal (no_label short) = inl refl
no_item_refusal (no_value long plain short) = inl refl
no_item_refusal (label15 long is) = inr refl

-- every refusal of items tells where
pub items-refusal : (l : List Bool) (u : Unread) → items l ≡ Err u → (b : Broken) × (u ≡ unread.Broken b) × ((b.refusal ≡ CutShort) ⊎ (b.refusal ≡ Label15))
items-refusal l u h = let b = stopped l u h in (broken b.refusal (length b.rest), b.told, no_item_refusal b.none)
