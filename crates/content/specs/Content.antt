-- The content of a message: document 01, "Multi-group content"; ISO 14819-1 clause 5.5.1.
use Rattle.std.specs.Prelude.{ℕ, Bool, true, false, ◌||◌, List, length, eqb, leb}
use Rattle.std.specs.Prelude.{Err}
use Rattle.content.specs.Items.{Reading, items}
use Rattle.content.specs.Packing.{longest}
use Rattle.content.specs.declared.read.Unread.TheVariants.{TooLong}

-- the content bits of two to five groups
unfoldable pub content_length : ℕ → Bool
content_length n = eqb n 28 || eqb n 56 || eqb n 84 || eqb n 112

-- the items of content bits, no more of them than five groups have
unfoldable pub content : List Bool → Reading
content l = elim (leb (length l) longest) [ true ↦ items l | false ↦ Err TooLong ]
