-- Every entry, in order.
use Prim.Native.Nat.{ℕ}
use mathlib.Core.Path.{◌≡◌, sym, ap, ◌∙◌}
use mathlib.Core.Bool.{Bool, true, ◌&&◌, and_assoc, and-true}
use mathlib.Core.List.{List, [], ◌∷◌}
use lib.ListN.{length}
use borrow.Author.Tests.{eq-eqb}
use Rattle.std.specs.List.{fold}
use Rattle.std.proofs.Common.{rules, tests}
use Rattle.std.proofs.lemmas.Iterator.{YieldsList-from_slice}
use Rattle.std.proofs.lemmas.Iterator.Consumers.{fold_from_yields_List}
use Rattle.lent.specs.Records.{all_of}
use Rattle.lent.specs.Catalogue.{entry_fits, catalogue_fits}
use Rattle.lent.proofs.catalogue.catalogue_fits.Goals as goal

folded : (p : ℕ → Bool) (b : Bool) (xs : List ℕ) → fold (λ (a : Bool) (x : ℕ). a && p x) b xs ≡ b && all_of p xs
folded p b [] = sym (and-true b)
folded p b (x ∷ xs) = folded p (b && p x) xs ∙ and_assoc b (p x) (all_of p xs)

pub returns : goal.returns
unfolding catalogue_fits
returns c =
    let l = c.args.c.now in
    fold_from_yields_List _ (λ a x. a && entry_fits x) true _ c.fold.ensures.ran (YieldsList-from_slice l (cc)) (λ a x b q k. search (rules, tests))
    ∙ folded entry_fits true l
    ∙ sym (ap (λ (b : Bool). b && all_of entry_fits l) (eq-eqb (length l) 2048 c.if-c-ne-EVENTS.false))
