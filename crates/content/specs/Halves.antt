-- How the code keeps content bits, in two numbers of 64: 128 bits, the first one highest, of which a `Rest` counts those that are left.
use Rattle.std.specs.Prelude.{◌-◌, Bool, List, ◌++◌, length, take, drop}
use Rattle.bits.specs.Bits.{bits, val}
use Rattle.content.specs.Packing.{zeros}
use Rattle.content.specs.declared.content.Content.{Content}
use Rattle.content.specs.declared.rest.Rest.{Rest}

-- the bits that it keeps
unfoldable pub bits_of : Content → List Bool
bits_of c = bits 64 c.high ++ bits 64 c.low

-- 128 bits as it keeps them
unfoldable pub content_of : List Bool → Content
content_of l = record { high = val (take 64 l); low = val (drop 64 l) }

-- bits as it keeps them, with zero bits after them
unfoldable pub starting_with : List Bool → Content
starting_with l = content_of (l ++ zeros (128 - length l))

-- the bits left
unfoldable pub remaining : Rest → List Bool
remaining r = take r.left (bits_of r.bits)
