-- The refusals that the answers tell, in the numbers of document 01: items are refused as content is (1, 7 or 8), a message for its length (1)
-- and then as its items are, and packing with 9, then 15.
use Prim.Native.Nat.{ℕ}
use mathlib.Core.Path.{◌≡◌, refl, sym, ap, ◌∙◌}
use mathlib.Core.Bool.{Bool, true, false, cond, ◌&&◌}
use mathlib.Core.List.{List}
use lib.ListN.{length, take, drop}
use lib.Dec.{leb}
use Rattle.std.specs.Prelude.{Result, Ok, Err}
use Rattle.refusal.specs.Number as packing
use Rattle.refusal.specs.Checks.{must}
use Rattle.refusal.specs.declared.Refusal.{Refusal}
use Rattle.refusal.specs.declared.Refusal.TheVariants.{Unfit, SmallBuffer}
use Rattle.bits.specs.Bits.{val}
use Rattle.bits.specs.Outcome.{mapped, refused_as}
use Rattle.bits.proofs.Choice.{either, chosen, passed_over}
use Rattle.word.specs.declared.Head.{Head}
use Rattle.content.specs.declared.read.Unread.TheVariants as unread
use Rattle.content.specs.Items as content
use Rattle.content.specs.Content.{content_length, content}
use Rattle.content.specs.Answers.{read_refusal}
use Rattle.report.specs.declared.Report.{Report}
use Rattle.report.specs.declared.Form.TheVariants.{Multi}
use Rattle.report.specs.Report.{multi_report}
use Rattle.report.specs.Answers.{refusal_in}
use Rattle.report.specs.Read.{Reading, placed, read_items, read_bits}
use Rattle.report.specs.InterRoad.{items_at}
use Rattle.report.specs.Fits.{report_fits}
use Rattle.report.specs.Record.{content_bytes, groups_of, pack_report}
use Rattle.report.proofs.Wholes.{whole-read, whole-refused}

pub items_number : (h : Head) (real whole : ℕ) (l : List Bool) → refusal_in (read_items h real whole l) ≡ read_refusal (content l)
unfolding read_items placed
items_number h real whole l = by_reading (content l)
  where
    by_reading : (x : content.Reading) → refusal_in (refused_as (placed whole) (mapped (multi_report h real) x)) ≡ read_refusal x
    by_reading (Ok its) = refl
    by_reading (Err unread.TooLong) = refl
    by_reading (Err (unread.Broken b)) = refl

pub message_number : (h : Head) (l : List Bool)
    → refusal_in (read_bits h l) ≡ cond (content_length (length l)) (read_refusal (content (drop (items_at Multi h) l))) 1
message_number h l =
    either (content_length (length l))
    (λ e. ap number (whole-read h l e) ∙ items_number h (val (take (items_at Multi h) l)) (length l) (drop (items_at Multi h) l) ∙ sym (chosen _ _ _ e))
    (λ e. ap number (whole-refused h l e) ∙ sym (passed_over _ _ _ e))
  where
    number : Reading → ℕ
    number x = refusal_in x

-- the number of groups where there is no refusal
pub pack_numbers : (r : Report) (room : ℕ)
    → let p = pack_report r room in
    (packing.refusal_in p ≡ cond (report_fits r) (cond (leb content_bytes room) 0 15) 9)
    × (packing.count_in p ≡ cond (report_fits r && leb content_bytes room) (groups_of r) 0)
unfolding pack_report
pack_numbers r room = by_tests (report_fits r) (leb content_bytes room)
  where
    by_tests : (f b : Bool)
        → let p : Result ℕ Refusal = must f Unfit (must b SmallBuffer (Ok (groups_of r))) in
        (packing.refusal_in p ≡ cond f (cond b 0 15) 9) × (packing.count_in p ≡ cond (f && b) (groups_of r) 0)
    by_tests true true = (refl, refl)
    by_tests true false = (refl, refl)
    by_tests false true = (refl, refl)
    by_tests false false = (refl, refl)
