-- One event more, and one item more.
use Prim.Native.Nat.{ℕ, ◌≤◌, min}
use native.Mathlib.Omega.{arith}
use mathlib.Core.Path.{◌≡◌, refl, sym, ap, ◌∙◌}
use mathlib.Core.Bool.{Bool, true, false, cond}
use mathlib.Core.List.{List, [], ◌∷◌, reverse, reverse-cons}
use lib.ListN.{length, take}
use lib.Seq.{take_all}
use lib.Dec.{leb, eqb}
use borrow.Author.Tests.{leb-true, leb-false}
use Rattle.std.specs.List.{fold}
use Rattle.std.proofs.lemmas.List.Sums.{fold_push}
use Rattle.content.specs.declared.item.Item.{Item}
use Rattle.content.specs.declared.items.Items.{Items}
use Rattle.content.specs.Stored.{limit, listed}
use Rattle.record.specs.declared.classes.Classes.{Classes}
use Rattle.record.specs.Classes.{with_class, set_of}
use Rattle.lent.specs.Catalogue.{entry_at, class_of, has_class}
use Rattle.classes.specs.Events.{additional, additional_events}
use Rattle.classes.specs.Classes.{event_classes, with_event, with_item}

-- the set of events, one event more at the front
pub event_more : (c : List ℕ) (e : ℕ) (es : List ℕ) → set_of (event_classes c (e ∷ es)) ≡ with_event c (set_of (event_classes c es)) e
unfolding event_classes set_of
event_more c e es = by_class (has_class (entry_at c e))
  where
    by_class : (b : Bool) → set_of (cond b (class_of (entry_at c e) ∷ event_classes c es) (event_classes c es)) ≡ cond b (with_class (set_of (event_classes c es)) (class_of (entry_at c e))) (set_of (event_classes c es))
    by_class true = refl
    by_class false = refl

-- that of items
abbrev pub items_set : List ℕ → List Item → ℕ
items_set c its = set_of (event_classes c (additional_events its))

item_more : (c : List ℕ) (i : Item) (its : List Item) → items_set c (i ∷ its) ≡ with_item c (items_set c its) i
unfolding additional_events
item_more c i its = by_label (eqb i.label additional)
  where
    by_label : (b : Bool) → set_of (event_classes c (cond b (i.value ∷ additional_events its) (additional_events its))) ≡ cond b (with_event c (items_set c its) i.value) (items_set c its)
    by_label true = event_more c i.value (additional_events its)
    by_label false = refl

-- from the last item to the first
abbrev pub added : List ℕ → Classes → Item → Classes
added c a i = record { 0 = with_item c a.0 i }

pub items_folded : (c : List ℕ) (its : List Item) → fold (added c) (record { 0 = 0 }) (reverse its) ≡ record { 0 = items_set c its }
unfolding set_of event_classes additional_events
items_folded c [] = refl
items_folded c (i ∷ its) =
    ap (fold (added c) (record { 0 = 0 })) (reverse-cons i its)
    ∙ fold_push (added c) (record { 0 = 0 }) (reverse its) i
    ∙ ap (λ (a : Classes). added c a i) (items_folded c its)
    ∙ sym (ap (λ (n : ℕ). record { 0 = n }) (item_more c i its))

-- the items in use are in the places that there are
pub listed-within : (s : Items) → length s.places ≡ limit → listed (record { count = min s.count limit; places = s.places }) ≡ listed s
unfolding listed
listed-within s sized = by_count (leb s.count limit) refl
  where
    by_count : (b : Bool) → leb s.count limit ≡ b → take (min s.count limit) s.places ≡ take s.count s.places
    by_count true e = let h : min s.count limit ≡ s.count = omega (arith, leb-true s.count limit e) in ap (λ (n : ℕ). take n s.places) h
    by_count false e =
        let h : min s.count limit ≡ limit = omega (arith, leb-false s.count limit e) in
        let all : length s.places ≤ limit = omega arith in
        let more : length s.places ≤ s.count = omega (arith, leb-false s.count limit e) in
        ap (λ (n : ℕ). take n s.places) h ∙ take_all limit s.places all ∙ sym (take_all s.count s.places more)
