-- What is known of bits from which one item is taken.
use Prim.Native.Nat.{◌+◌, ◌≤◌}
use native.Mathlib.Omega.{arith}
use mathlib.Core.Path.{◌≡◌, sym, ap, subst, ◌∙◌}
use mathlib.Core.Bool.{Bool}
use mathlib.Core.List.{List}
use lib.ListN.{length, take, drop, length-drop}
use lib.Dec.{eqb, ltb}
use borrow.Author.Tests.{ltb-true, ltb-false, eqb-true, eqb-false}
use Rattle.bits.specs.Bits.{val}
use Rattle.bits.proofs.Choice.{either}
use Rattle.content.specs.Widths.{label_width, width, sublabelled}
use Rattle.std.specs.Prelude.{Ok, Err}
use Rattle.refusal.specs.declared.Refusal.{Refusal}
use Rattle.refusal.specs.declared.Refusal.TheVariants.{CutShort, Label15}
use Rattle.bits.proofs.Outcomes.{refused-gives-none}
use Rattle.content.specs.Items.{First, broken, valued, labelled, first}
use Rattle.content.specs.Broken.{NoItem, no_label, no_value, label15}
use Rattle.content.specs.declared.item.Item.{Item}
use Rattle.content.specs.declared.rest.Broken.{Broken}

-- the bits l are a label, its value and the rest
pub record Taking (l : List Bool) (i : Item) (rest : List Bool) : Type 0 where
  pub long : label_width ≤ length l
  pub labelled : val (take label_width l) ≡ i.label
  pub plain : i.label ≡ sublabelled → ⊥
  pub whole : width i.label ≤ length (drop label_width l)
  pub valued : val (take (width i.label) (drop label_width l)) ≡ i.value
  pub rested : drop (width i.label) (drop label_width l) ≡ rest

pub first-taking : (l : List Bool) (i : Item) (rest : List Bool) → first l ≡ Ok (i, rest) → Taking l i rest
unfolding first labelled valued
first-taking l i rest e =
    let label = val (take label_width l) in
    let tail = drop label_width l in
    either (ltb (length l) label_width)
    (λ h. absurd (refused-gives-none (rw (h, first) at e)))
    (λ h.
    let e₁ : labelled (length l) label tail ≡ Ok (i, rest) = rw (h, first) at e in
    either (eqb label sublabelled)
    (λ k. absurd (refused-gives-none (rw (k, labelled) at e₁)))
    (λ k.
    let e₂ : valued (length l) label tail ≡ Ok (i, rest) = rw (k, labelled) at e₁ in
    either (ltb (length tail) (width label))
    (λ m. absurd (refused-gives-none (rw (m, valued) at e₂)))
    (λ m.
    let e₃ : ◌≡◌ {A = First} (Ok (record { label = label; value = val (take (width label) tail) }, drop (width label) tail)) (Ok (i, rest)) = rw (m, valued) at e₂ in
    let both : ◌≡◌ {A = Item × List Bool} (record { label = label; value = val (take (width label) tail) }, drop (width label) tail) (i, rest) = cc in
    let same : record { label = label; value = val (take (width label) tail) } ≡ i = ap (λ (x : Item × List Bool). x.0) both in
    let el : label ≡ i.label = ap (λ (x : Item). x.label) same in
    record {
      long = ltb-false (length l) label_width h;
      labelled = el;
      plain = λ p. eqb-false label sublabelled k (el ∙ p);
      whole = rw (← el) (ltb-false (length tail) (width label) m);
      valued = rw (← el) (ap (λ (x : Item). x.value) same);
      rested = rw (← el) (ap (λ (x : Item × List Bool). x.1) both);
    })))

-- one item takes four bits or more
pub first-shorter : (l : List Bool) (i : Item) (rest : List Bool) → first l ≡ Ok (i, rest) → length rest + label_width ≤ length l
first-shorter l i rest e =
    let t = first-taking l i rest e in
    let n = width i.label in
    omega (arith, length-drop label_width l, length-drop n (drop label_width l), ap length t.rested, t.long)

same-broken : (l : List Bool) (refusal : Refusal) (b : Broken) → ◌≡◌ {A = First} (Err (broken refusal (length l))) (Err b) → NoItem l refusal
    → NoItem l b.refusal × (b.left ≡ length l)
same-broken l refusal b e none =
    let same : broken refusal (length l) ≡ b = cc in
    (subst (λ (x : Broken). NoItem l x.refusal) same none, sym (ap (λ (x : Broken). x.left) same))

-- where no item is taken there is none to take, and all bits are left
pub first-broken : (l : List Bool) (b : Broken) → first l ≡ Err b → NoItem l b.refusal × (b.left ≡ length l)
unfolding first labelled valued
first-broken l b e =
    let label = val (take label_width l) in
    let tail = drop label_width l in
    either (ltb (length l) label_width)
    (λ h. same-broken l CutShort b (rw (h, first) at e) (no_label (ltb-true (length l) label_width h)))
    (λ h.
    let long = ltb-false (length l) label_width h in
    let e₁ : labelled (length l) label tail ≡ Err b = rw (h, first) at e in
    either (eqb label sublabelled)
    (λ k. same-broken l Label15 b (rw (k, labelled) at e₁) (label15 long (eqb-true label sublabelled k)))
    (λ k.
    let e₂ : valued (length l) label tail ≡ Err b = rw (k, labelled) at e₁ in
    either (ltb (length tail) (width label))
    (λ m. same-broken l CutShort b (rw (m, valued) at e₂) (no_value long (eqb-false label sublabelled k) (ltb-true (length tail) (width label) m)))
    (λ m.
    let e₃ : Ok (record { label = label; value = val (take (width label) tail) }, drop (width label) tail) ≡ Err b = rw (m, valued) at e₂ in
    absurd (refused-gives-none (sym e₃)))))
