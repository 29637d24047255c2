-- INTER-ROAD messages (ISO 14819-1, clause 6.7.2): the location is a foreign location table (FLT) code, and the real location is the first 16
-- content bits of the second group.
use Rattle.std.specs.Prelude.{ℕ, Bool, false, cond, List, ◌++◌}
use Rattle.bits.specs.Bits.{bits}
use Rattle.word.specs.declared.Head.{Head}
use Rattle.location.specs.Flt.{is_flt}
use Rattle.content.specs.Packing.{packing}
use Rattle.content.specs.Stored.{listed}
use Rattle.report.specs.declared.Report.{Report}
use Rattle.report.specs.declared.Form.{Form}
use Rattle.report.specs.declared.Form.TheVariants.{Single, Multi}

-- a multi-group message whose location is an FLT code
unfoldable pub inter_road : Form → Head → Bool
inter_road Single h = false
inter_road Multi h = is_flt h.location

-- the content bit at which the items begin: before them is the place of the real location
unfoldable pub items_at : Form → Head → ℕ
items_at form h = cond (inter_road form h) 16 0

-- the real location in its place
unfoldable pub real_bits : Report → List Bool
real_bits r = bits (items_at r.form r.head) r.real

-- the content bits of a report: its real location, and its items
unfoldable pub content_of : Report → List Bool
content_of r = real_bits r ++ packing (listed r.items)
