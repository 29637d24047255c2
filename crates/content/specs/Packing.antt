-- The content bits of items: document 01, "Multi-group content", the writer.
use Rattle.std.specs.Prelude.{ℕ, ◌+◌, ◌-◌, ◌*◌, ◌/◌, ◌^◌, max, Bool, true, false, ◌&&◌, not, List, [], ◌∷◌, ◌++◌, length, replicate, eqb, ltb, leb}
use Rattle.bits.specs.Bits.{bits}
use Rattle.content.specs.Widths.{label_width, width, sublabelled}
use Rattle.content.specs.declared.item.Item.{Item}

-- n zero bits
abbrev pub zeros : ℕ → List Bool
zeros n = replicate n false

-- an item's label and value
unfoldable pub item_bits : Item → List Bool
item_bits i = bits label_width i.label ++ bits (width i.label) i.value

-- the items one after the other
unfoldable pub packing : List Item → List Bool
packing [] = []
packing (i ∷ its) = item_bits i ++ packing its

-- a label with a width, and a value within it
unfoldable pub item_fits : Item → Bool
item_fits i = ltb i.label sublabelled && ltb i.value (2 ^ width i.label)

-- every item fits
unfoldable pub all_fit : List Item → Bool
all_fit [] = true
all_fit (i ∷ its) = item_fits i && all_fit its

-- the item whose bits are all zero
unfoldable pub zero_item : Item → Bool
zero_item i = eqb i.label 0 && eqb i.value 0

-- the last item is the zero item, whose bits cannot be told from padding
unfoldable pub last_zero : List Item → Bool
last_zero [] = false
last_zero (i ∷ []) = zero_item i
last_zero (i ∷ j ∷ its) = last_zero (j ∷ its)

-- content bits of a later group
abbrev pub group_bits : ℕ
group_bits = 28

-- content bits of the four later groups that a message may have
abbrev pub longest : ℕ
longest = 112

-- items that fit, in the content bits of five groups
unfoldable pub packable : List Item → Bool
packable its = all_fit its && leb (length (packing its)) longest

-- the items that a writer takes
unfoldable pub writable : List Item → Bool
writable its = packable its && not (last_zero its)

-- the fewest groups for n content bits: a first group, and at least one later group
abbrev pub groups : ℕ → ℕ
groups n = 1 + max 1 ((n + 27) / group_bits)

-- the content bits of those groups
abbrev pub room : ℕ → ℕ
room n = group_bits * (groups n - 1)

-- content bits, and zero bits up to the end of the fewest groups
unfoldable pub padded : List Bool → List Bool
padded l = l ++ zeros (room (length l) - length l)
