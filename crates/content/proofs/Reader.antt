-- The laws of one turn of the reader: an item taken goes after those found.
use mathlib.Core.Path.{◌≡◌, refl, sym, ap, ◌∙◌}
use mathlib.Core.Bool.{Bool, true, false}
use mathlib.Core.List.{List, [], ◌∷◌, ◌++◌, append_assoc, append-nil}
use Rattle.bits.specs.Bits.{all_zero}
use Rattle.std.specs.Prelude.{Result, Ok, Err, is_ok}
use Rattle.bits.specs.Outcome.{mapped}
use Rattle.bits.proofs.Outcomes.{mapped-given}
use Rattle.content.specs.Items.{first, Reading, prepend, items}
use Rattle.content.specs.Answers.{first_of, appended}
use Rattle.content.specs.Stored.{filled, listed}
use Rattle.content.specs.declared.item.Item.{Item}
use Rattle.content.specs.declared.items.Items.{Items}
use Rattle.content.specs.declared.rest.Broken.{Broken}
use Rattle.content.specs.declared.rest.Taken.{Taken}
use Rattle.content.specs.declared.read.Unread.{Unread}
use Rattle.content.specs.declared.read.Unread.TheVariants as unread
use Rattle.content.proofs.ItemsLaw.{items-zero, items-item, items-broken}

appended-after : (found : List Item) (i : Item) (r : Reading) → appended (found ++ (i ∷ [])) r ≡ appended found (prepend i r)
appended-after found i (Ok its) = ap Ok (append_assoc found (i ∷ []) its)
appended-after found i (Err u) = refl

module _ (found : List Item) (l : List Bool) where
  pub found_all : all_zero l ≡ true → appended found (items l) ≡ Ok found
  found_all z = ap (appended found) (items-zero l z) ∙ ap Ok (append-nil found)

  pub found_one : (i : Item) (rest : List Bool) → all_zero l ≡ false → first l ≡ Ok (i, rest) → appended found (items l) ≡ appended (found ++ (i ∷ [])) (items rest)
  found_one i rest z e = ap (appended found) (items-item l i rest z e) ∙ sym (appended-after found i (items rest))

-- bits with an item in front read if those after it do
pub one_reads : (l : List Bool) (i : Item) (rest : List Bool) → all_zero l ≡ false → first l ≡ Ok (i, rest) → is_ok (items l) ≡ is_ok (items rest)
one_reads l i rest z e = ap is_ok (items-item l i rest z e) ∙ mapped-given (λ its. i ∷ its) (items rest)

pub found_none : (r : Reading) → appended [] r ≡ r
found_none (Ok its) = refl
found_none (Err u) = refl

-- where nothing but zero bits is left, the items found are those of the bits
pub all_found : (before : List Item) (s : Items) (l rest : List Bool) → before ≡ [] → appended (listed s) (items rest) ≡ appended before (items l)
    → filled (listed s) ≡ s → all_zero rest ≡ true → Ok s ≡ mapped filled (items l)
all_found before s l rest none e kept z =
    sym (ap (mapped filled) (sym (found_none (items l)) ∙ ap (λ (its : List Item). appended its (items l)) (sym none) ∙ sym e ∙ found_all (listed s) rest z) ∙ ap Ok kept)

-- where no item can be taken off the bits left, the bits break there
pub broken_found : (before found : List Item) (l rest : List Bool) (t : Result Taken Broken) (b : Broken) (u : Unread) → before ≡ []
    → appended found (items rest) ≡ appended before (items l) → all_zero rest ≡ false → first_of t ≡ first rest → t ≡ Err b → u ≡ unread.Broken b
    → Err u ≡ mapped filled (items l)
broken_found before found l rest t b u none e z f h k =
    let broken = items-broken rest b z (sym f ∙ ap first_of h) in
    let all : items l ≡ Err (unread.Broken b) =
    sym (found_none (items l)) ∙ ap (λ (its : List Item). appended its (items l)) (sym none) ∙ sym e ∙ ap (appended found) broken in
    ap Err k ∙ sym (ap (mapped filled) all)
