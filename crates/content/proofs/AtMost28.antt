-- At most 112 bits hold at most 28 items, and 112 bits of separators (label 14) hold as many.
use Prim.Native.Nat.{◌≤◌}
use native.Mathlib.Omega.{arith}
use mathlib.Core.Path.{◌≡◌, refl}
use mathlib.Core.Bool.{Bool}
use mathlib.Core.List.{List}
use lib.ListN.{length, replicate}
use Rattle.bits.specs.Bits.{bit, num, bits, val, all_zero}
use Rattle.std.specs.Prelude.{Ok}
use Rattle.content.specs.Widths.{widths, width}
use Rattle.content.specs.Items.{valued, labelled, first, and_then, read_by, items_within, items}
use Rattle.content.specs.Content.{content}
use Rattle.content.specs.Packing.{item_bits, packing, longest}
use Rattle.content.specs.Stored.{limit}
use Rattle.content.specs.declared.item.Item.{Item}
use Rattle.content.proofs.Packings.{packing_long}
use Rattle.content.proofs.WrittenIsRead.{packable_short, writable-packable}
use Rattle.content.proofs.ReadIsWritten.{items-writable}

pub at_most_28 : (l : List Bool) (its : List Item) → length l ≤ longest → items l ≡ Ok its → length its ≤ limit
at_most_28 l its short h = omega (arith, packing_long its, packable_short its (writable-packable its (items-writable l its short h)))

abbrev separator : Item
separator = record { label = 14; value = 0 }

pub reached_28 : content (packing (replicate 28 separator)) ≡ Ok (replicate 28 separator)
unfolding bit num bits val all_zero widths width valued labelled first and_then read_by items_within items content item_bits packing
reached_28 = refl
