-- The reports that a writer takes, the continuity index apart (document 01, "Multi-group content"; document 02, R-1).
use Rattle.std.specs.Prelude.{ℕ, ◌^◌, Bool, ◌&&◌, length, eqb, ltb, leb}
use Rattle.bits.specs.Fields.{fits}
use Rattle.word.specs.declared.Head.{Head}
use Rattle.word.specs.Format.{head_part, head_format}
use Rattle.word.specs.Compose.{head_values, single_values}
use Rattle.content.specs.declared.items.Items.{Items}
use Rattle.content.specs.Packing.{longest, writable}
use Rattle.content.specs.Stored.{listed, well_placed}
use Rattle.report.specs.declared.Report.{Report}
use Rattle.report.specs.declared.Form.{Form}
use Rattle.report.specs.declared.Form.TheVariants.{Single, Multi}
use Rattle.report.specs.Report.{duration_of, diversion_of}
use Rattle.report.specs.InterRoad.{items_at, content_of}

-- a single-group report: fields in range and no items
unfoldable pub single_fits : Report → Bool
single_fits r = fits head_format (single_values r.duration r.diversion r.head) && (well_placed r.items && eqb r.items.count 0)

-- the duration and the diversion are those of the items
unfoldable pub agrees : Report → Bool
agrees r = eqb r.duration (duration_of (listed r.items)) && eqb r.diversion (diversion_of (listed r.items))

-- items that can be written, and zero in the unused places
unfoldable pub items_fit : Items → Bool
items_fit s = well_placed s && writable (listed s)

-- the real location and the items in the content bits of five groups
unfoldable pub content_fits : Report → Bool
content_fits r = leb (length (content_of r)) longest

-- a multi-group report: such items and such content, fields in range, duration and diversion that agree with the items
unfoldable pub multi_fits : Report → Bool
multi_fits r = (items_fit r.items && content_fits r) && (fits head_part (head_values r.head) && agrees r)

unfoldable pub fits_by : Form → Report → Bool
fits_by Single r = single_fits r
fits_by Multi r = multi_fits r

-- a real location within the bits of its place: 0 where it has none
unfoldable pub real_fits : Form → Head → ℕ → Bool
real_fits form h real = ltb real (2 ^ items_at form h)

unfoldable pub report_fits : Report → Bool
report_fits r = real_fits r.form r.head r.real && fits_by r.form r
