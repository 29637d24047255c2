-- From the last item to the first.
use Prim.Native.Nat.{ℕ}
use mathlib.Core.Path.{◌≡◌, ap, ◌∙◌}
use lib.ListN.{length, take}
use mathlib.Core.List.{List, reverse}
use Rattle.std.specs.List.{fold}
use Rattle.std.specs.Slice.Iter.{iter_rest}
use Rattle.std.proofs.Common.{rules, tests}
use Rattle.std.proofs.lemmas.Iterator.Adapters.{YieldsList-from_rev_slice}
use Rattle.std.proofs.lemmas.Iterator.Consumers.{fold_from_yields_List}
use Rattle.content.specs.Stored.{limit, listed}
use Rattle.record.specs.declared.classes.Classes.{Classes}
use Rattle.classes.proofs.EventClasses.{added, items_folded, items_set, listed-within}
use Rattle.classes.proofs.of_items.Goals as goal

pub returns : goal.returns
unfolding listed
returns c =
    let a = c.args in
    let k = a.catalogue.now in
    let places : length a.items.places ≡ limit = c.well_formed.0.1.1.0.1.0.1 in
    let used = take c.min-used.result a.items.places in
    let road = YieldsList-from_rev_slice used (ap iter_rest c.rev.ensures.source ∙ c.iter.ensures.rest) in
    let folded : c.fold.result ≡ fold (added k) c.new.result (reverse used) = fold_from_yields_List _ (added k) c.new.result c.fold.result c.fold.ensures.ran road (λ b x r q h. search (rules, tests)) in
    let none : c.new.result ≡ record { 0 = 0 } = ap (λ (n : ℕ). record { 0 = n }) c.new.ensures in
    ap (λ (x : Classes). x.0) (folded ∙ ap (λ (x : Classes). fold (added k) x (reverse used)) none ∙ items_folded k used)
    ∙ ap (λ (n : ℕ). items_set k (take n a.items.places)) c.min-used.ensures
    ∙ ap (items_set k) (listed-within a.items places)
