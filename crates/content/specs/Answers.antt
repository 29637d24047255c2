-- The code's answers, by the definitions of what is read and written.
use Rattle.std.specs.Prelude.{ℕ, ◌&&◌, List, ◌++◌, length, Result, Ok, Err}
use Rattle.refusal.specs.Number.{number}
use Rattle.refusal.specs.Checks.{must}
use Rattle.refusal.specs.declared.Refusal.{Refusal}
use Rattle.refusal.specs.declared.Refusal.TheVariants.{WrongLength, Unfit}
use Rattle.bits.specs.Outcome.{mapped}
use Rattle.content.specs.Items.{First, Reading}
use Rattle.content.specs.Packing.{packing, writable}
use Rattle.content.specs.Halves.{starting_with, remaining}
use Rattle.content.specs.Stored.{listed, well_placed}
use Rattle.content.specs.declared.item.Item.{Item}
use Rattle.content.specs.declared.items.Items.{Items}
use Rattle.content.specs.declared.rest.Taken.{Taken}
use Rattle.content.specs.declared.rest.Broken.{Broken}
use Rattle.content.specs.declared.read.Unread.{Unread}
use Rattle.content.specs.declared.read.Unread.TheVariants as unread
use Rattle.content.specs.declared.pack.Packed.{Packed}

-- what taking one item answers: the item, and the bits after it
abbrev pub first_of : Result Taken Broken → First
first_of = mapped (λ taken. (taken.item, remaining taken.rest))

-- items before those of a reading
abbrev pub appended : List Item → Reading → Reading
appended before = mapped (λ its. before ++ its)

-- items packed: how many bits, and the bits
unfoldable pub packed : List Item → Packed
packed its = record { bits = length (packing its); content = starting_with (packing its) }

-- what the packer answers
unfoldable pub packed_of : Items → Result Packed Refusal
packed_of s = must (well_placed s && writable (listed s)) Unfit (Ok (packed (listed s)))

-- the refusal that is told of bits that do not read: 1 for too many bits (document 01, "Numbers returned when refused")
abbrev pub refusal_of : Unread → Refusal
refusal_of unread.TooLong = WrongLength
refusal_of (unread.Broken broken) = broken.refusal

-- its number, 0 where bits read
abbrev pub read_refusal : Reading → ℕ
read_refusal (Ok its) = 0
read_refusal (Err u) = number (refusal_of u)
