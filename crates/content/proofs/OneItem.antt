-- One item off the front of bits: each answer, and that an item's own bits give it back.
use Prim.Native.Nat.{ℕ, ◌^◌, ◌<◌, ◌≤◌}
use native.Mathlib.Omega.{arith}
use mathlib.Core.Path.{◌≡◌, sym, ap, ap₂, subst, subst₂, ◌∙◌}
use mathlib.Core.Bool.{Bool, true, ◌&&◌}
use mathlib.Core.List.{List, ◌++◌, append_assoc}
use lib.ListN.{length, take, drop, length-append, take-append-drop}
use lib.Seq.{take_at, drop_at, length-take-le}
use lib.Dec.{eqb, ltb}
use borrow.Author.Tests.{ltb-true, lt-ltb, le-ltb, eq-eqb, ne_eqb}
use Rattle.bits.specs.Bits.{bits, val, all_zero}
use Rattle.bits.proofs.Value.{length-bits, val-bits_lt, bits-val, val_lt, all_zero-append, all_zero-val}
use Rattle.content.specs.Widths.{label_width, width, sublabelled}
use Rattle.std.specs.Prelude.{Ok, Err}
use Rattle.refusal.specs.declared.Refusal.TheVariants.{CutShort, Label15}
use Rattle.content.specs.Items.{First, broken, valued, labelled, first}
use Rattle.content.specs.Packing.{item_bits, item_fits, zero_item}
use Rattle.content.specs.declared.item.Item.{Item}
use Rattle.content.proofs.FirstLaw.{first-taking}
use Rattle.bits.proofs.Choice.{and_left, and_right}

pub first_short : (l : List Bool) → length l < label_width → first l ≡ Err (broken CutShort (length l))
unfolding first
first_short l h = rw (lt-ltb (length l) label_width h, first)

module _ (l : List Bool) (long : label_width ≤ length l) (label : ℕ) (e : label ≡ val (take label_width l)) where
  first-labelled : first l ≡ labelled (length l) label (drop label_width l)
  unfolding first
  first-labelled = rw (le-ltb (length l) label_width long, first) (ap (λ (n : ℕ). labelled (length l) n (drop label_width l)) (sym e))

  pub first-sublabelled : label ≡ sublabelled → first l ≡ Err (broken Label15 (length l))
  unfolding labelled
  first-sublabelled s = first-labelled ∙ rw (eq-eqb label sublabelled s, labelled)

  module _ (plain : label ≡ sublabelled → ⊥) where
    first-valued : first l ≡ valued (length l) label (drop label_width l)
    unfolding labelled
    first-valued = first-labelled ∙ rw (ne_eqb label sublabelled plain, labelled)

    pub first_cut : length (drop label_width l) < width label → first l ≡ Err (broken CutShort (length l))
    unfolding valued
    first_cut h = first-valued ∙ rw (lt-ltb (length (drop label_width l)) (width label) h, valued)

    pub first-whole : width label ≤ length (drop label_width l)
        → first l ≡ Ok (record { label = label; value = val (take (width label) (drop label_width l)) }, drop (width label) (drop label_width l))
    unfolding valued
    first-whole h = first-valued ∙ rw (le-ltb (length (drop label_width l)) (width label) h, valued)

module _ (i : Item) (fit : item_fits i ≡ true) where
  pub label_lt : i.label < sublabelled
  unfolding item_fits
  label_lt = ltb-true i.label sublabelled (and_left (ltb i.label sublabelled) (ltb i.value (2 ^ width i.label)) fit)

  pub value_lt : i.value < 2 ^ width i.label
  unfolding item_fits
  value_lt = ltb-true i.value (2 ^ width i.label) (and_right (ltb i.label sublabelled) (ltb i.value (2 ^ width i.label)) fit)

  val_label : val (bits label_width i.label) ≡ i.label
  val_label = val-bits_lt label_width i.label (let h = label_lt in omega arith)

  val_value : val (bits (width i.label) i.value) ≡ i.value
  val_value = val-bits_lt (width i.label) i.value value_lt

  -- an item's bits are zero exactly if it is the zero item
  pub all_zero-item_bits : all_zero (item_bits i) ≡ zero_item i
  unfolding item_bits zero_item
  all_zero-item_bits =
      let l = bits label_width i.label in
      let v = bits (width i.label) i.value in
      all_zero-append l v
      ∙ ap₂ ◌&&◌ (all_zero-val l ∙ ap (λ (n : ℕ). eqb n 0) val_label) (all_zero-val v ∙ ap (λ (n : ℕ). eqb n 0) val_value)

  -- an item's bits give it back
  pub first-item_bits : (rest : List Bool) → first (item_bits i ++ rest) ≡ Ok (i, rest)
  unfolding item_bits
  first-item_bits rest =
      let w = width i.label in
      let l = bits label_width i.label in
      let v = bits w i.value in
      let whole = (l ++ v) ++ rest in
      let assoc : whole ≡ l ++ (v ++ rest) = append_assoc l v rest in
      let front : take label_width whole ≡ l = ap (take label_width) assoc ∙ take_at l (v ++ rest) label_width (length-bits label_width i.label) in
      let back : drop label_width whole ≡ v ++ rest = ap (drop label_width) assoc ∙ drop_at l (v ++ rest) label_width (length-bits label_width i.label) in
      let long : label_width ≤ length whole = omega (arith, ap length assoc, length-append l (v ++ rest), length-bits label_width i.label) in
      let fits : w ≤ length (drop label_width whole) = omega (arith, ap length back, length-append v rest, length-bits w i.value) in
      first-whole whole long i.label (sym (ap val front ∙ val_label)) (λ s. let h = label_lt in omega arith) fits
      ∙ ap₂ (λ (n : ℕ) (r : List Bool). let f : First = Ok (record { label = i.label; value = n }, r) in f)
      (ap (λ (m : List Bool). val (take w m)) back ∙ ap val (take_at v rest w (length-bits w i.value)) ∙ val_value)
      (ap (drop w) back ∙ drop_at v rest w (length-bits w i.value))

-- an item that is taken fits, and its bits stood at the front
pub first_fits : (l : List Bool) (i : Item) (rest : List Bool) → first l ≡ Ok (i, rest) → item_fits i ≡ true
unfolding item_fits
first_fits l i rest e =
    let t = first-taking l i rest e in
    let w = width i.label in
    let n : length (take label_width l) ≡ label_width = length-take-le label_width l t.long in
    let m : length (take w (drop label_width l)) ≡ w = length-take-le w (drop label_width l) t.whole in
    let h : val (take label_width l) < 2 ^ label_width = subst (λ (k : ℕ). val (take label_width l) < 2 ^ k) n (val_lt (take label_width l)) in
    let small : i.label < sublabelled = omega (arith, t.labelled, t.plain) in
    let inside : i.value < 2 ^ w = subst₂ (λ (x k : ℕ). x < 2 ^ k) t.valued m (val_lt (take w (drop label_width l))) in
    ap₂ ◌&&◌ (lt-ltb i.label sublabelled small) (lt-ltb i.value (2 ^ w) inside)

pub first-bits_front : (l : List Bool) (i : Item) (rest : List Bool) → first l ≡ Ok (i, rest) → l ≡ item_bits i ++ rest
unfolding item_bits
first-bits_front l i rest e =
    let t = first-taking l i rest e in
    let w = width i.label in
    sym (ap₂ (λ (a b : List Bool). (a ++ b) ++ rest)
    (ap (bits label_width) (sym t.labelled) ∙ bits-val (take label_width l) label_width (length-take-le label_width l t.long))
    (ap (bits w) (sym t.valued) ∙ bits-val (take w (drop label_width l)) w (length-take-le w (drop label_width l) t.whole))
    ∙ append_assoc (take label_width l) (take w (drop label_width l)) rest
    ∙ ap (λ (r : List Bool). take label_width l ++ (take w (drop label_width l) ++ r)) (sym t.rested)
    ∙ ap (λ (r : List Bool). take label_width l ++ r) (take-append-drop w (drop label_width l))
    ∙ take-append-drop label_width l)
