-- The items that bits hold, however many: ISO 14819-1 clause 5.5.1; document 01, "Multi-group content".
use Rattle.std.specs.Prelude.{ℕ, zero, suc, Bool, true, false, List, [], ◌∷◌, length, take, drop, eqb, ltb}
use Rattle.std.specs.Prelude.{Result, Ok, Err}
use Rattle.refusal.specs.declared.Refusal.{Refusal}
use Rattle.refusal.specs.declared.Refusal.TheVariants.{CutShort, Label15}
use Rattle.bits.specs.Bits.{val, all_zero}
use Rattle.bits.specs.Outcome.{mapped}
use Rattle.content.specs.Widths.{label_width, width, sublabelled}
use Rattle.content.specs.declared.item.Item.{Item}
use Rattle.content.specs.declared.rest.Broken.{Broken}
use Rattle.content.specs.declared.read.Unread.{Unread}
use Rattle.content.specs.declared.read.Unread.TheVariants as unread

-- one item and the bits after it; or why it cannot be taken, and how many bits are left where it begins
abbrev pub First : Type 0
First = Result (Item × List Bool) Broken

-- no item can be taken where so many bits are left
abbrev pub broken : Refusal → ℕ → Broken
broken refusal left = record { refusal = refusal; left = left }

module _ (left : ℕ) where
  -- the value after a label, of an item that begins where so many bits are left
  unfoldable pub valued : ℕ → List Bool → First
  valued label l =
      elim (ltb (length l) (width label)) [
        | true ↦ Err (broken CutShort left)
        | false ↦ Ok (record { label = label; value = val (take (width label) l) }, drop (width label) l)
      ]

  -- what follows its label
  unfoldable pub labelled : ℕ → List Bool → First
  labelled label l = elim (eqb label sublabelled) [ true ↦ Err (broken Label15 left) | false ↦ valued label l ]

-- one item off the front
unfoldable pub first : List Bool → First
first l =
    elim (ltb (length l) label_width) [
      | true ↦ Err (broken CutShort (length l))
      | false ↦ labelled (length l) (val (take label_width l)) (drop label_width l)
    ]

-- the items that content holds, or why it does not read
abbrev pub Reading : Type 0
Reading = Result (List Item) Unread

-- an item before those of a reading
abbrev pub prepend : Item → Reading → Reading
prepend i = mapped (λ its. i ∷ its)

-- one item, and then the reading of the rest
unfoldable pub and_then : First → (List Bool → Reading) → Reading
and_then (Ok (i, rest)) next = prepend i (next rest)
and_then (Err b) next = Err (unread.Broken b)

-- all zero: no items; else one item, and then the reading of the rest
unfoldable pub read_by : (List Bool → Reading) → List Bool → Reading
read_by next l = elim (all_zero l) [ true ↦ Ok [] | false ↦ and_then (first l) next ]

-- the reading in at most n steps
unfoldable pub items_within : ℕ → List Bool → Reading
items_within zero = λ l. Ok []
items_within (suc n) = read_by (items_within n)

-- the items of bits, by as many steps as could be needed: read it by its law, `items l ≡ read_by items l` (`items_law` in
-- proofs/ItemsLaw.antt)
unfoldable pub items : List Bool → Reading
items l = items_within (suc (length l)) l
