-- The laws of items in their places.
use Prim.Native.Nat.{ℕ, zero, suc, ◌+◌, ◌-◌, ◌≤◌, ◌<◌}
use native.Mathlib.Omega.{arith}
use mathlib.Core.Path.{◌≡◌, refl, sym, ap, ap₂, ◌∙◌}
use mathlib.Core.Bool.{true, false, ◌&&◌}
use mathlib.Core.List.{List, [], ◌∷◌, ◌++◌}
use lib.ListN.{length, drop, get_or, set, replicate, length-append, length-drop, take-append-drop}
use lib.Seq.{take_at, drop_at, set_at, length-take-le, append_snoc, drop-cons, get_or-take}
use lib.Dec.{eqb, leb}
use borrow.Author.Tests.{le-leb, leb-true, eqb-true}
use Rattle.std.specs.Prelude.{Some, None, slice_get}
use Rattle.content.specs.Packing.{zero_item, last_zero}
use Rattle.content.specs.Stored.{limit, no_item, filled, listed, all_zero_items, well_placed}
use Rattle.content.specs.declared.item.Item.{Item}
use Rattle.content.specs.declared.items.Items.{Items}
use Rattle.bits.proofs.Choice.{and_left, and_right}

pub listed-filled : (its : List Item) → listed (filled its) ≡ its
unfolding listed filled
listed-filled its = take_at its (replicate (limit - length its) no_item) (length its) refl

all_zero_items-none : (n : ℕ) → all_zero_items (replicate n no_item) ≡ true
unfolding all_zero_items zero_item
all_zero_items-none zero = refl
all_zero_items-none (suc n) = all_zero_items-none n

pub well_placed-filled : (its : List Item) → length its ≤ limit → well_placed (filled its) ≡ true
unfolding well_placed filled
well_placed-filled its h =
    ap₂ ◌&&◌ (le-leb (length its) limit h)
    (ap all_zero_items (drop_at its (replicate (limit - length its) no_item) (length its) refl) ∙ all_zero_items-none (limit - length its))

zero-item : (i : Item) → zero_item i ≡ true → i ≡ no_item
unfolding zero_item
zero-item i h =
    let l = eqb-true i.label 0 (and_left (eqb i.label 0) (eqb i.value 0) h) in
    let v = eqb-true i.value 0 (and_right (eqb i.label 0) (eqb i.value 0) h) in
    ap₂ (λ (x y : ℕ). let j : Item = record { label = x; value = y } in j) l v

zero-items : (its : List Item) → all_zero_items its ≡ true → its ≡ replicate (length its) no_item
unfolding all_zero_items
zero-items [] h = refl
zero-items (i ∷ its) h =
    ap₂ (λ (j : Item) (js : List Item). j ∷ js)
    (zero-item i (and_left (zero_item i) (all_zero_items its) h))
    (zero-items its (and_right (zero_item i) (all_zero_items its) h))

-- items that are well placed are known by their list
pub filled-listed : (s : Items) → length s.places ≡ limit → well_placed s ≡ true → filled (listed s) ≡ s
unfolding well_placed filled listed
filled-listed s n h =
    let c = leb-true s.count limit (and_left (leb s.count limit) (all_zero_items (drop s.count s.places)) h) in
    let k : length (listed s) ≡ s.count = length-take-le s.count s.places (omega arith) in
    let m : limit - length (listed s) ≡ length (drop s.count s.places) = omega (arith, length-drop s.count s.places) in
    let z = zero-items (drop s.count s.places) (and_right (leb s.count limit) (all_zero_items (drop s.count s.places)) h) in
    ap₂ (λ (x : ℕ) (y : List Item). let t : Items = record { count = x; places = y } in t) k
    (ap (λ (x : ℕ). listed s ++ replicate x no_item) m ∙ ap (λ (d : List Item). listed s ++ d) (sym z) ∙ take-append-drop s.count s.places)

-- one item more, in the first unused place
filled_snoc : (its : List Item) (i : Item) → length its < limit
    → filled (its ++ (i ∷ [])) ≡ record { count = length its + 1; places = set (filled its).places (length its) i }
unfolding filled
filled_snoc its i h =
    let n : length (its ++ (i ∷ [])) ≡ length its + 1 = length-append its (i ∷ []) in
    let r : limit - length its ≡ suc (limit - (length its + 1)) = omega arith in
    ap₂ (λ (x : ℕ) (y : List Item). let t : Items = record { count = x; places = y } in t) n
    (ap (λ (x : ℕ). (its ++ (i ∷ [])) ++ replicate (limit - x) no_item) n
    ∙ append_snoc its i (replicate (limit - (length its + 1)) no_item)
    ∙ sym (ap (λ (x : ℕ). set (its ++ replicate x no_item) (length its) i) r
    ∙ set_at its no_item (replicate (limit - (length its + 1)) no_item) i (length its) refl))

-- one item more, put into the first unused place
pub pushed_places : (s : Items) (i : Item) → s.count < limit → filled (listed s) ≡ s
    → record { count = s.count + 1; places = set s.places s.count i } ≡ filled (listed s ++ (i ∷ []))
unfolding filled
pushed_places s i h e =
    let n : length (listed s) ≡ s.count = ap (λ (x : Items). x.count) e in
    ap₂ (λ (x : ℕ) (y : List Item). let t : Items = record { count = x; places = y } in t)
    (ap (λ (x : ℕ). x + 1) (sym n))
    (ap₂ (λ (p : List Item) (x : ℕ). set p x i) (ap (λ (x : Items). x.places) (sym e)) (sym n))
    ∙ sym (filled_snoc (listed s) i (omega arith))

-- the last item, as the library finds it
pub last_zero-some : (its : List Item) (i : Item) → Some i ≡ slice_get its (length its - 1) → last_zero its ≡ zero_item i
unfolding last_zero
last_zero-some [] i e = absurd (cc)
last_zero-some (j ∷ []) i e = let same : j ≡ i = cc in ap zero_item same
last_zero-some (j ∷ k ∷ its) i e =
    let n : length (j ∷ k ∷ its) - 1 ≡ suc (length (k ∷ its) - 1) = omega arith in
    last_zero-some (k ∷ its) i (e ∙ ap (slice_get (j ∷ k ∷ its)) n)

pub last_zero-none : (its : List Item) → None ≡ slice_get its (length its - 1) → last_zero its ≡ false
unfolding last_zero
last_zero-none [] e = refl
last_zero-none (j ∷ []) e = absurd (cc)
last_zero-none (j ∷ k ∷ its) e =
    let n : length (j ∷ k ∷ its) - 1 ≡ suc (length (k ∷ its) - 1) = omega arith in
    last_zero-none (k ∷ its) (e ∙ ap (slice_get (j ∷ k ∷ its)) n)

-- one place decides, and then the rest
pub all_zero_items_at : (its : List Item) (n : ℕ) → n < length its → all_zero_items (drop n its) ≡ zero_item (get_or its n no_item) && all_zero_items (drop (suc n) its)
unfolding all_zero_items
all_zero_items_at its n h = ap all_zero_items (drop-cons its n no_item h)

pub well_placed-count : (s : Items) → well_placed s ≡ true → s.count ≤ limit
unfolding well_placed
well_placed-count s h = leb-true s.count limit (and_left (leb s.count limit) (all_zero_items (drop s.count s.places)) h)

module _ (s : Items) (n : length s.places ≡ limit) (h : s.count ≤ limit) where
  pub length-listed : length (listed s) ≡ s.count
  unfolding listed
  length-listed = length-take-le s.count s.places (omega arith)

  pub listed_at : (i : ℕ) → i < s.count → get_or (listed s) i no_item ≡ get_or s.places i no_item
  unfolding listed
  listed_at i l = get_or-take s.count s.places i no_item l

  -- the item at a place before the rest of them
  pub listed_cons : (i : ℕ) → i < s.count → get_or s.places i no_item ∷ drop (suc i) (listed s) ≡ drop i (listed s)
  listed_cons i l =
      ap (λ (j : Item). j ∷ drop (suc i) (listed s)) (sym (listed_at i l))
      ∙ sym (drop-cons (listed s) i no_item (let k = length-listed in omega arith))

  pub listed_before : (i : ℕ) → 0 < i → i ≤ s.count → get_or s.places (i - 1) no_item ∷ drop i (listed s) ≡ drop (i - 1) (listed s)
  listed_before i p l =
      let j : i ≡ suc (i - 1) = omega arith in
      ap (λ (k : ℕ). get_or s.places (i - 1) no_item ∷ drop k (listed s)) j ∙ listed_cons (i - 1) (omega arith)

-- items that are filled from a list are filled from their own
pub refilled : (its : List Item) (s : Items) → s ≡ filled its → filled (listed s) ≡ s
refilled its s e = ap (λ (x : Items). filled (listed x)) e ∙ ap filled (listed-filled its) ∙ sym e
