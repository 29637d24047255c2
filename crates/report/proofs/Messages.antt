-- What the reading of content says of the report.
use Prim.Native.Nat.{ℕ, ◌≤◌, ◌<◌, ◌^◌}
use mathlib.Core.Path.{◌≡◌, refl, sym, ap, subst, ◌∙◌}
use mathlib.Core.Bool.{Bool, true, false, cond}
use mathlib.Core.List.{List, [], ◌∷◌}
use native.Mathlib.Omega.{arith}
use lib.ListN.{take, length-take}
use lib.Dec.{ltb, eqb}
use borrow.Author.Tests.{eqb-true, ltb-true}
use Rattle.std.specs.Prelude.{Result, Ok, Err}
use Rattle.bits.specs.Outcome.{mapped}
use Rattle.bits.proofs.Outcomes.{refused-gives-none}
use Rattle.bits.proofs.Choice.{and_left, and_right, chosen, passed_over}
use Rattle.content.specs.declared.item.Item.{Item}
use Rattle.content.specs.declared.items.Items.{Items}
use Rattle.content.specs.declared.rest.Broken.{Broken}
use Rattle.content.specs.declared.read.Unread.{Unread}
use Rattle.content.specs.declared.read.Unread.TheVariants as unread
use Rattle.content.specs.declared.content.Content.{Content}
use Rattle.content.specs.Widths.{widths, width, sublabelled}
use Rattle.content.specs.Items.{Reading}
use Rattle.content.specs.Content.{content}
use Rattle.content.specs.Packing.{item_fits, all_fit, longest}
use Rattle.content.specs.Halves.{bits_of}
use Rattle.content.specs.Stored.{limit, filled, listed}
use Rattle.content.proofs.Halves.{length-bits_of}
use Rattle.content.proofs.Broken.{content-broken, breaks}
use Rattle.content.proofs.AtMost28.{at_most_28}
use Rattle.content.proofs.ReadIsWritten.{content_short, content_holds, items-writable}
use Rattle.content.proofs.WrittenIsRead.{packable-fits, writable-packable}
use Rattle.content.proofs.Places.{listed-filled}
use Rattle.report.specs.Report.{first_where, duration_of}

-- content that was read, and the items of the answer
pub record ReadItems (l : List Bool) (s : Items) : Type 0 where
  pub its : List Item
  pub reading : content l ≡ Ok its
  pub stored : s ≡ filled its

pub read-items : (l : List Bool) (s : Items) → Ok s ≡ mapped filled (content l) → ReadItems l s
read-items l s e = by_reading (content l) refl
  where
    by_reading : (x : Reading) → content l ≡ x → ReadItems l s
    by_reading (Ok its) h =
        let both : ◌≡◌ {A = Result Items Unread} (Ok s) (Ok (filled its)) = e ∙ ap (mapped filled) h in
        record { its = its; reading = h; stored = cc }
    by_reading (Err u) h = absurd (refused-gives-none (sym (e ∙ ap (mapped filled) h)))

-- content that was refused is refused as the answer says
pub read-refused : (l : List Bool) (u : Unread) → Err u ≡ mapped filled (content l) → content l ≡ Err u
read-refused l u e = by_reading (content l) refl
  where
    by_reading : (x : Reading) → content l ≡ x → content l ≡ Err u
    by_reading (Ok its) h = absurd (refused-gives-none {a = filled its} (e ∙ ap (mapped filled) h))
    by_reading (Err v) h =
        let both : ◌≡◌ {A = Result Items Unread} (Err u) (Err v) = e ∙ ap (mapped filled) h in
        h ∙ ap Err (cc)

-- the bits left where an item begins are among those read
pub left_within : (c : Content) (size : ℕ) (b : Broken) → content (take size (bits_of c)) ≡ Err (unread.Broken b) → (b.left ≤ size) × (size ≤ longest)
left_within c size b e =
    let l = take size (bits_of c) in
    let u = content-broken l b e in
    let k = (breaks l b.refusal b.left).0 u.1 in
    (omega (arith, k.0, length-take size (bits_of c)), omega (arith, u.0, length-take size (bits_of c), length-bits_of c))

-- the items that are read are at most 28, and in range
module _ (l : List Bool) (s : Items) (h : ReadItems l s) where
  pub items-listed : listed s ≡ h.its
  items-listed = ap listed h.stored ∙ listed-filled h.its

  pub items-count : s.count ≤ limit
  unfolding filled
  items-count = subst (λ (n : ℕ). n ≤ limit) (sym (ap (λ (x : Items). x.count) h.stored)) (at_most_28 l h.its (content_short l h.its h.reading) (content_holds l h.its h.reading))

  pub items-fit : all_fit (listed s) ≡ true
  items-fit = ap all_fit items-listed ∙ packable-fits h.its (writable-packable h.its (items-writable l h.its (content_short l h.its h.reading) (content_holds l h.its h.reading)))

  pub items-filled : filled (listed s) ≡ s
  items-filled = ap filled items-listed ∙ sym h.stored

-- a duration in range fits its three bits
pub duration_lt : (its : List Item) → all_fit its ≡ true → duration_of its < 8
unfolding first_where all_fit item_fits width widths
duration_lt [] f = omega arith
duration_lt (i ∷ its) f = by_label (eqb i.label 0) refl (duration_lt its (and_right (item_fits i) (all_fit its) f))
  where
    by_label : (b : Bool) → eqb i.label 0 ≡ b → duration_of its < 8 → cond (eqb i.label 0) i.value (duration_of its) < 8
    by_label true e k =
        let v = ltb-true i.value (2 ^ width i.label) (and_right (ltb i.label sublabelled) (ltb i.value (2 ^ width i.label)) (and_left (item_fits i) (all_fit its) f)) in
        subst (λ (n : ℕ). n < 8) (sym (chosen _ _ _ e)) (subst (λ (n : ℕ). i.value < 2 ^ width n) (eqb-true i.label 0 e) v)
    by_label false e k = subst (λ (n : ℕ). n < 8) (sym (passed_over _ _ _ e)) k
