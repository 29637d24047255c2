-- The refusals that the answers tell, in the numbers of document 01: reading content gives 1, 7 or 8, packing items 9.
use mathlib.Core.Path.{◌≡◌, refl, sym, ap, subst}
use mathlib.Core.Logic.{◌⊎◌, inl, inr}
use mathlib.Core.Bool.{Bool, true, false, cond, ◌&&◌}
use mathlib.Core.List.{List}
use lib.ListN.{length}
use lib.Dec.{leb}
use Rattle.std.specs.Prelude.{Ok, Err}
use Rattle.refusal.specs.Number.{number, refusal_in}
use Rattle.refusal.specs.declared.Refusal.{Refusal}
use Rattle.refusal.specs.declared.Refusal.TheVariants.{CutShort, Label15, Unfit}
use Rattle.content.specs.Items.{Reading, items}
use Rattle.content.specs.Content.{content}
use Rattle.content.specs.Packing.{longest, writable}
use Rattle.content.specs.Stored.{listed, well_placed}
use Rattle.content.specs.Answers.{refusal_of, read_refusal, packed, packed_of}
use Rattle.content.specs.declared.items.Items.{Items}
use Rattle.content.specs.declared.read.Unread.{Unread}
use Rattle.content.specs.declared.read.Unread.TheVariants as unread
use Rattle.content.proofs.Broken.{items-refusal}

-- reading: 0 where content is read; 1 for its length, 7 or 8 for an item
pub read_numbers : (l : List Bool) → let n = read_refusal (content l) in (n ≡ 0) ⊎ ((n ≡ 1) ⊎ ((n ≡ 7) ⊎ (n ≡ 8)))
unfolding content
read_numbers l = by_length (leb (length l) longest)
  where
    by_refusal : (r : Refusal) → (r ≡ CutShort) ⊎ (r ≡ Label15) → (number r ≡ 7) ⊎ (number r ≡ 8)
    by_refusal r (inl e) = inl (ap number e)
    by_refusal r (inr e) = inr (ap number e)

    by_items : (x : Reading) → items l ≡ x → let n = read_refusal x in (n ≡ 0) ⊎ ((n ≡ 1) ⊎ ((n ≡ 7) ⊎ (n ≡ 8)))
    by_items (Ok its) h = inl refl
    by_items (Err u) h =
        let r = items-refusal l u h in
        inr (inr (by_refusal (refusal_of u) (subst (λ (v : Unread). (refusal_of v ≡ CutShort) ⊎ (refusal_of v ≡ Label15)) (sym r.1) r.2)))

    by_length : (b : Bool) → let n = read_refusal (elim b [ true ↦ items l | false ↦ Err unread.TooLong ]) in (n ≡ 0) ⊎ ((n ≡ 1) ⊎ ((n ≡ 7) ⊎ (n ≡ 8)))
    by_length true = by_items (items l) refl
    by_length false = inr (inl refl)

-- packing: 9 for what cannot be written, else 0
pub pack_number : (s : Items) → refusal_in (packed_of s) ≡ cond (well_placed s && writable (listed s)) 0 9
unfolding packed_of
pack_number s = by_test (well_placed s && writable (listed s))
  where
    by_test : (b : Bool) → refusal_in (cond b (Ok (packed (listed s))) (Err Unfit)) ≡ cond b 0 9
    by_test true = refl
    by_test false = refl
