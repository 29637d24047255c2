-- What a multi-group message says, from its head and the content of its later groups (document 01, "Multi-group content"; ISO 14819-1, clause
-- 6.7.2), and where its content breaks (document 02, R-8). What a single-group message says is `single_report`.
use Rattle.std.specs.Prelude.{ℕ, ◌-◌, Bool, true, false, List, length, take, drop}
use Rattle.std.specs.Prelude.{Result, Err}
use Rattle.refusal.specs.declared.Refusal.TheVariants.{WrongLength}
use Rattle.bits.specs.Bits.{val}
use Rattle.bits.specs.Fields.{flat}
use Rattle.bits.specs.Outcome.{mapped, refused_as}
use Rattle.word.specs.declared.Head.{Head}
use Rattle.content.specs.declared.read.Unread.{Unread}
use Rattle.content.specs.declared.read.Unread.TheVariants as unread
use Rattle.content.specs.Content.{content_length, content}
use Rattle.content.specs.Packing.{group_bits}
use Rattle.report.specs.declared.Report.{Report}
use Rattle.report.specs.declared.Form.TheVariants.{Multi}
use Rattle.report.specs.declared.Unreadable.{Unreadable}
use Rattle.report.specs.declared.Unreadable.TheVariants.{Refused, Broken}
use Rattle.report.specs.Report.{multi_report}
use Rattle.report.specs.InterRoad.{items_at}

-- a report, or why there is none
abbrev pub Reading : Type 0
Reading = Result Report Unreadable

-- why there is none: the place is how many of `whole` bits of content stand before those that are left
unfoldable pub placed : ℕ → Unread → Unreadable
placed whole unread.TooLong = Refused WrongLength
placed whole (unread.Broken broken) = Broken broken.refusal (whole - broken.left)

-- a head, a real location, and the bits of the items, which are the last of `whole` bits of content
unfoldable pub read_items : Head → (real whole : ℕ) → List Bool → Reading
read_items h real whole l = refused_as (placed whole) (mapped (multi_report h real) (content l))

-- a head and the content bits of two to five groups: a real location is what stands before the items
unfoldable pub read_bits : Head → List Bool → Reading
read_bits h l =
    elim (content_length (length l)) [
      | true ↦ read_items h (val (take (items_at Multi h) l)) (length l) (drop (items_at Multi h) l)
      | false ↦ Err (Refused WrongLength)
    ]

-- a head and the contents of the later groups, in order
unfoldable pub read_report : Head → List ℕ → Reading
read_report h contents = read_bits h (flat group_bits contents)
