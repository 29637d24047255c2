-- A report's content as the message table keeps it: 14 bytes, first bit highest, zero filled, and the number of groups (document 01,
-- "The message table").
use Rattle.std.specs.Prelude.{ℕ, ◌-◌, cond, ◌&&◌, List, ◌++◌, length, drop, leb, Result, Ok}
use Rattle.refusal.specs.Checks.{must}
use Rattle.refusal.specs.declared.Refusal.{Refusal}
use Rattle.refusal.specs.declared.Refusal.TheVariants.{Unfit, SmallBuffer}
use Rattle.bits.specs.Fields.{words}
use Rattle.content.specs.declared.item.Item.{Item}
use Rattle.content.specs.Packing.{zeros, packing, groups, longest}
use Rattle.content.specs.Stored.{listed}
use Rattle.report.specs.declared.Report.{Report}
use Rattle.report.specs.declared.Form.{Form}
use Rattle.report.specs.declared.Form.TheVariants.{Single, Multi}
use Rattle.report.specs.Fits.{report_fits}

abbrev pub content_bytes : ℕ
content_bytes = 14

-- the bytes of the items
unfoldable pub bytes_of : List Item → List ℕ
bytes_of its = words 8 content_bytes (packing its ++ zeros (longest - length (packing its)))

-- the groups of a report whose items take n bits: one, or the fewest that have room for them
unfoldable pub groups_for : Form → ℕ → ℕ
groups_for Single n = 1
groups_for Multi n = groups n

unfoldable pub groups_of : Report → ℕ
groups_of r = groups_for r.form (length (packing (listed r.items)))

-- unfit where a writer does not take the report, then too small a buffer; else the number of groups
unfoldable pub pack_report : Report → ℕ → Result ℕ Refusal
pack_report r room = must (report_fits r) Unfit (must (leb content_bytes room) SmallBuffer (Ok (groups_of r)))

-- the buffer afterwards: the bytes first and later cells as they were; a refusal leaves it
unfoldable pub bytes_after : Report → List ℕ → List ℕ
bytes_after r out = cond (report_fits r && leb content_bytes (length out)) (bytes_of (listed r.items) ++ drop content_bytes out) out
