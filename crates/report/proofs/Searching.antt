-- A search over items, as the library has it.
use Prim.Native.Nat.{ℕ}
use mathlib.Core.Path.{◌≡◌, refl}
use mathlib.Core.Bool.{Bool, true, false, cond}
use mathlib.Core.List.{List, [], ◌∷◌}
use mir.Val.{bool_byte}
use Rattle.std.specs.Prelude.{find}
use Rattle.std.specs.Option.{option_map_or}
use Rattle.std.specs.List.{list_any}
use Rattle.content.specs.declared.item.Item.{Item}
use Rattle.report.specs.Report.{first_where}

pub first_found : (test : Item → Bool) (f : Item → ℕ) (its : List Item) → option_map_or f (find test its) 0 ≡ first_where test f its
unfolding first_where
first_found test f [] = refl
first_found test f (i ∷ its) = by_test (test i) refl (first_found test f its)
  where
    by_test : (b : Bool) → test i ≡ b → option_map_or f (find test its) 0 ≡ first_where test f its
        → option_map_or f (find test (i ∷ its)) 0 ≡ cond (test i) (f i) (first_where test f its)
    by_test true e more = rw e refl
    by_test false e more = rw e more

pub some_found : (test : Item → Bool) (its : List Item) → bool_byte (list_any test its) ≡ first_where test (λ i. 1) its
unfolding first_where
some_found test [] = refl
some_found test (i ∷ its) = by_test (test i) refl (some_found test its)
  where
    by_test : (b : Bool) → test i ≡ b → bool_byte (list_any test its) ≡ first_where test (λ j. 1) its
        → bool_byte (list_any test (i ∷ its)) ≡ cond (test i) 1 (first_where test (λ j. 1) its)
    by_test true e more = rw e refl
    by_test false e more = rw e more
