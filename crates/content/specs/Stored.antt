-- How the code keeps items: their number, and 28 places of which the unused ones are zero.
use Rattle.std.specs.Prelude.{ℕ, ◌-◌, Bool, ◌&&◌, List, ◌++◌, length, take, drop, replicate, leb}
use Rattle.std.specs.List.{list_all}
use Rattle.content.specs.Packing.{zero_item}
use Rattle.content.specs.declared.item.Item.{Item}
use Rattle.content.specs.declared.items.Items.{Items}

-- the most items that content holds
abbrev pub limit : ℕ
limit = 28

-- what stands in an unused place
abbrev pub no_item : Item
no_item = record { label = 0; value = 0 }

-- the items, and zero items up to 28
unfoldable pub filled : List Item → Items
filled its = record { count = length its; places = its ++ replicate (limit - length its) no_item }

-- the items in use
unfoldable pub listed : Items → List Item
listed s = take s.count s.places

-- every one is the zero item
unfoldable pub all_zero_items : List Item → Bool
all_zero_items = list_all zero_item

-- at most 28 items, and zero items in the unused places
unfoldable pub well_placed : Items → Bool
well_placed s = leb s.count limit && all_zero_items (drop s.count s.places)
