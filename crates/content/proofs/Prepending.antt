-- The laws of one item put before packed items.
use Prim.Native.Nat.{ℕ, zero, suc, ◌+◌, ◌-◌, ◌≤◌, ◌<◌}
use native.Mathlib.Omega.{arith}
use mathlib.Core.Path.{◌≡◌, sym, ap, ap₂, ◌∙◌}
use mathlib.Core.Bool.{Bool, true, false, ◌&&◌, and-false}
use mathlib.Core.List.{List, [], ◌∷◌, ◌++◌, append_assoc}
use lib.ListN.{length, take, drop, length-append, length-replicate}
use lib.Seq.{take-append-add}
use lib.Dec.{leb}
use borrow.Author.Tests.{le-leb, lt-leb}
use Rattle.std.specs.Prelude.{Result, Ok, Err, IsErrAnd}
use Rattle.refusal.specs.Checks.{must}
use Rattle.refusal.specs.declared.Refusal.{Refusal}
use Rattle.refusal.specs.declared.Refusal.TheVariants.{Unfit}
use Rattle.bits.specs.Bits.{bits}
use Rattle.bits.proofs.Outcomes.{refused-gives-none}
use Rattle.bits.proofs.Value.{length-bits}
use Rattle.content.specs.Widths.{label_width, width}
use Rattle.content.specs.Packing.{zeros, item_bits, packing, item_fits, all_fit, longest, packable, writable}
use Rattle.content.specs.Halves.{bits_of, content_of, starting_with}
use Rattle.content.specs.Stored.{listed, well_placed}
use Rattle.content.specs.Answers.{packed, packed_of}
use Rattle.content.specs.declared.content.Content.{Content}
use Rattle.content.specs.declared.item.Item.{Item}
use Rattle.content.specs.declared.items.Items.{Items}
use Rattle.content.specs.declared.pack.Packed.{Packed}
use Rattle.bits.proofs.Choice.{either, and_right}
use Rattle.content.proofs.Zeros.{take-zeros}
use Rattle.content.proofs.Halves.{bits_of-content_of}
use Rattle.content.proofs.Packings.{length-packing}
use Rattle.content.proofs.WrittenIsRead.{packable-fits, packable_short}

-- w bits put before bits that leave room for them
pub prefix_starting : (l : List Bool) (w v : ℕ) → length l + w ≤ 128
    → content_of (bits w v ++ take (128 - w) (bits_of (starting_with l))) ≡ starting_with (bits w v ++ l)
unfolding starting_with
prefix_starting l w v h =
    let n = length l in
    let room : n + (128 - n) ≡ 128 = omega arith in
    let e : length (l ++ zeros (128 - n)) ≡ 128 = length-append l (zeros (128 - n)) ∙ ap (λ (m : ℕ). n + m) (length-replicate (128 - n) false) ∙ room in
    let k : 128 - w ≡ n + (128 - (w + n)) = omega arith in
    let s : length (bits w v ++ l) ≡ w + n = length-append (bits w v) l ∙ ap (λ (m : ℕ). m + n) (length-bits w v) in
    ap content_of
    (ap₂ (λ (m : ℕ) (b : List Bool). bits w v ++ take m b) k (bits_of-content_of (l ++ zeros (128 - n)) e)
    ∙ ap (λ (b : List Bool). bits w v ++ b) (take-append-add l (zeros (128 - n)) (128 - (w + n)) ∙ ap (λ (b : List Bool). l ++ b) (take-zeros (128 - (w + n)) (128 - n) (omega arith)))
    ∙ sym (append_assoc (bits w v) l (zeros (128 - (w + n))))
    ∙ ap (λ (m : ℕ). (bits w v ++ l) ++ zeros (128 - m)) (sym s))

-- packed items, and one item before them
module _ (p : Packed) (its : List Item) (packs : packable its ≡ true) (was_packed : p ≡ packed its) (i : Item) where
  packed-length : p.bits ≡ length (packing its)
  unfolding packed
  packed-length = ap (λ (q : Packed). q.bits) was_packed

  packed-content : p.content ≡ starting_with (packing its)
  unfolding packed
  packed-content = ap (λ (q : Packed). q.content) was_packed

  pub prepend_long : longest - (label_width + width i.label) < p.bits → packable (i ∷ its) ≡ false
  unfolding packable
  prepend_long h =
      let m : longest < length (packing (i ∷ its)) = let k = packed-length in omega (arith, length-packing i its) in
      ap (λ (b : Bool). all_fit (i ∷ its) && b) (lt-leb (length (packing (i ∷ its))) longest m) ∙ and-false (all_fit (i ∷ its))

  module _ (fit : item_fits i ≡ true) (room : label_width + width i.label + p.bits ≤ longest) where
    pub prepend-packable : packable (i ∷ its) ≡ true
    unfolding packable all_fit
    prepend-packable =
        ap₂ ◌&&◌ (ap₂ ◌&&◌ fit (packable-fits its packs))
        (le-leb (length (packing (i ∷ its))) longest (let k = packed-length in omega (arith, length-packing i its)))

    pub prepend-content : (value whole : Content)
        → value ≡ content_of (bits (width i.label) i.value ++ take (128 - width i.label) (bits_of p.content))
        → whole ≡ content_of (bits label_width i.label ++ take (128 - label_width) (bits_of value))
        → record { bits = label_width + width i.label + p.bits; content = whole } ≡ packed (i ∷ its)
    unfolding packed packing item_bits
    prepend-content value whole v r =
        let w = width i.label in
        let l = bits label_width i.label in
        let m = bits w i.value in
        let k = packed-length in
        let s : length (m ++ packing its) ≡ w + p.bits = length-append m (packing its) ∙ ap₂ (λ (x y : ℕ). x + y) (length-bits w i.value) (sym k) in
        let v' : value ≡ starting_with (m ++ packing its) = v ∙ ap (λ (c : Content). content_of (m ++ take (128 - w) (bits_of c))) packed-content ∙ prefix_starting (packing its) w i.value (omega arith) in
        let r' : whole ≡ starting_with ((l ++ m) ++ packing its) =
        r
        ∙ ap (λ (c : Content). content_of (l ++ take (128 - label_width) (bits_of c))) v'
        ∙ prefix_starting (m ++ packing its) label_width i.label (omega arith)
        ∙ ap starting_with (sym (append_assoc l m (packing its))) in
        ap₂ (λ (n : ℕ) (c : Content). let q : Packed = record { bits = n; content = c } in q)
        (ap (λ (x : ℕ). label_width + w + x) k ∙ sym (length-packing i its))
        r'

pub prepend-unfit : (i : Item) (its : List Item) → item_fits i ≡ false → packable (i ∷ its) ≡ false
unfolding packable all_fit
prepend-unfit i its f = ap (λ (b : Bool). b && all_fit its && leb (length (packing (i ∷ its))) longest) f

packable-tail : (i : Item) (its : List Item) → packable (i ∷ its) ≡ true → packable its ≡ true
unfolding packable all_fit
packable-tail i its p =
    ap₂ ◌&&◌ (and_right (item_fits i) (all_fit its) (packable-fits (i ∷ its) p))
    (le-leb (length (packing its)) longest (let h = packable_short (i ∷ its) p in omega (arith, length-packing i its)))

-- the last of packable items are packable
pub packable-drop : (n : ℕ) (its : List Item) → packable its ≡ true → packable (drop n its) ≡ true
packable-drop zero its p = p
packable-drop (suc n) [] p = p
packable-drop (suc n) (i ∷ its) p = packable-drop n its (packable-tail i its p)

-- what the packer answers
module _ (s : Items) where
  pub packed-unfit : well_placed s && writable (listed s) ≡ false → packed_of s ≡ Err Unfit
  unfolding packed_of
  packed-unfit f = rw f

  pub packed-fit : well_placed s && writable (listed s) ≡ true → packed_of s ≡ Ok (packed (listed s))
  unfolding packed_of
  packed-fit t = rw t

  -- from a place on the items are not packable: none are packed
  pub packed-refused : (n : ℕ) (e : Refusal) (p : Packed) → Err e ≡ must (packable (drop n (listed s))) Unfit (Ok p) → packed_of s ≡ Err e
  unfolding writable
  packed-refused n e p h =
      either (packable (listed s))
      (λ t. absurd (refused-gives-none {a = p} (h ∙ rw (packable-drop n (listed s) t))))
      (λ f.
      either (packable (drop n (listed s)))
      (λ t. absurd (refused-gives-none {a = p} (h ∙ rw t)))
      (λ g.
      let same : ◌≡◌ {A = Result Packed Refusal} (Err e) (Err Unfit) = h ∙ rw g in
      packed-unfit (rw f (and-false (well_placed s))) ∙ sym same))

-- a refusal that is passed on
pub refused_told : {A : Type 0} (r : Result A Refusal) (e : Refusal) → IsErrAnd r (λ x. x ≡ e) → r ≡ Err e
refused_told (Ok a) e h = absurd h
refused_told (Err x) e h = ap Err h
