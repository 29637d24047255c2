-- What a report that a writer takes has: items that are packed, and a head in range.
use Prim.Native.Nat.{◌≤◌}
use mathlib.Core.Path.{◌≡◌}
use mathlib.Core.Bool.{true, ◌&&◌}
use lib.ListN.{length}
use borrow.Author.Tests.{leb-true}
use Rattle.std.specs.Prelude.{Ok}
use Rattle.bits.specs.Fields.{fits}
use Rattle.bits.proofs.Choice.{and_left, and_right}
use Rattle.word.specs.Format.{head_part}
use Rattle.word.specs.Compose.{head_values}
use Rattle.content.specs.declared.items.Items.{Items}
use Rattle.content.specs.Packing.{longest, writable}
use Rattle.content.specs.Stored.{listed, well_placed}
use Rattle.content.specs.Answers.{packed, packed_of}
use Rattle.content.proofs.Prepending.{packed-fit}
use Rattle.report.specs.declared.Report.{Report}
use Rattle.report.specs.InterRoad.{content_of}
use Rattle.report.specs.Fits.{items_fit, content_fits, agrees, multi_fits}

-- items that fit are packed
pub fit-writable : (s : Items) → items_fit s ≡ true → writable (listed s) ≡ true
unfolding items_fit
fit-writable s h = and_right (well_placed s) (writable (listed s)) h

pub fit-packed : (s : Items) → items_fit s ≡ true → packed_of s ≡ Ok (packed (listed s))
unfolding items_fit
fit-packed s h = packed-fit s h

-- the parts of a multi-group report that fits
module _ (r : Report) (fit : multi_fits r ≡ true) where
  packs : items_fit r.items && content_fits r ≡ true
  unfolding multi_fits
  packs = and_left (items_fit r.items && content_fits r) (fits head_part (head_values r.head) && agrees r) fit

  tells : fits head_part (head_values r.head) && agrees r ≡ true
  unfolding multi_fits
  tells = and_right (items_fit r.items && content_fits r) (fits head_part (head_values r.head) && agrees r) fit

  pub items-fit : items_fit r.items ≡ true
  items-fit = and_left (items_fit r.items) (content_fits r) packs

  -- five groups have room for the content
  pub content_short : length (content_of r) ≤ longest
  unfolding content_fits
  content_short = leb-true (length (content_of r)) longest (and_right (items_fit r.items) (content_fits r) packs)

  pub head-fit : fits head_part (head_values r.head) ≡ true
  head-fit = and_left (fits head_part (head_values r.head)) (agrees r) tells

  pub agreed : agrees r ≡ true
  agreed = and_right (fits head_part (head_values r.head)) (agrees r) tells
