-- The signs of an LTO, computed.
use mathlib.Core.Path.{◌≡◌, refl}
use lib.IntN.{pos, negsuc}
use Rattle.lto.specs.Offset.{lto_of}

-- minus one, minus zero, and the furthest to the west
pub signs : (lto_of 0x21 ≡ negsuc 0) × (lto_of 0x20 ≡ pos 0) × (lto_of 0x3F ≡ negsuc 30)
unfolding lto_of
signs = (refl, refl, refl)
