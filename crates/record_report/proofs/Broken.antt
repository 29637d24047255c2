-- Where the content of a record breaks: a place in the answer is one in the record's own content.
use Prim.Native.Nat.{ℕ, ◌≤◌, ◌<◌}
use native.Mathlib.Omega.{arith}
use mathlib.Core.Path.{◌≡◌, refl, sym, ap, subst, ◌∙◌}
use mathlib.Core.Bool.{Bool, true, false, cond, ◌&&◌}
use mathlib.Core.List.{List}
use lib.ListN.{length, take, drop, length-drop}
use lib.Seq.{length-take-le}
use lib.Dec.{eqb}
use borrow.Author.Tests.{eqb-true, eqb-false}
use Rattle.bits.specs.Fields.{flat}
use Rattle.std.specs.Prelude.{Option, None, Some, Result, Ok, Err}
use Rattle.bits.proofs.Choice.{and_left, and_right}
use Rattle.bits.proofs.Fields.{length-flat}
use Rattle.content.specs.Packing.{longest}
use Rattle.content.specs.Broken.{BreaksAt}
use Rattle.content.proofs.Broken.{place_lt}
use Rattle.refusal.specs.declared.Refusal.{Refusal}
use Rattle.refusal.specs.declared.Refusal.TheVariants.{Malformed}
use Rattle.bits.specs.Outcome.{mapped}
use Rattle.report.specs.declared.Unreadable.{Unreadable}
use Rattle.report.specs.declared.Unreadable.TheVariants.{Refused, Broken}
use Rattle.report.specs.Report.{single_report}
use Rattle.report.specs.Record.{content_bytes}
use Rattle.report.specs.Read.{Reading, read_items}
use Rattle.report.proofs.Broken.{items_break}
use Rattle.record.specs.Layout.{record_size, content_at, is_record, byte_at, is_free, groups_in, head_in, real_in, duration_in, diversion_in, content_in, service_in, expiry_in}
use Rattle.record.specs.WellFormed.{content_bits, well_formed}
use Rattle.record.proofs.Ranges.{groups_range}
use Rattle.record_report.specs.declared.Kept.{Kept}
use Rattle.record_report.specs.Reads.{with_real, message_in, kept_in, reading_in, reading_of}

-- the content bits of its groups
abbrev pub content_of : List ℕ → List Bool
content_of r = take (content_bits r) (flat 8 (content_in r))

module _ (r : List ℕ) (place : ℕ) (x : Refusal) where
  abbrev told : Result (Option Kept) Unreadable
  told = Err (Broken x place)

  length-content : length r ≡ record_size → groups_in r ≤ 5 → length (content_of r) ≡ content_bits r
  length-content size few =
      let all : length (content_in r) ≡ content_bytes = length-take-le content_bytes (drop content_at r) (omega (arith, length-drop content_at r)) in
      length-take-le (content_bits r) (flat 8 (content_in r)) (omega (arith, length-flat 8 (content_in r)))

  pub record_breaks : reading_of r ≡ told → BreaksAt 0 (content_of r) place x × (place < longest)
  unfolding reading_of reading_in message_in
  record_breaks e = by_form (is_record r && well_formed r) refl e
    where
      by_items : length r ≡ record_size → groups_in r ≤ 5 → (m : Reading) → read_items (head_in r) (real_in r) (content_bits r) (content_of r) ≡ m
          → mapped (λ y. Some (kept_in r y)) m ≡ told → BreaksAt 0 (content_of r) place x × (place < longest)
      by_items size few (Ok y) m f = absurd (cc)
      by_items size few (Err y) m f =
          let long = length-content size few in
          let same : y ≡ Broken x place = cc in
          let broken : read_items (head_in r) (real_in r) (length (content_of r)) (content_of r) ≡ Err (Broken x place) =
          ap (λ (k : ℕ). read_items (head_in r) (real_in r) k (content_of r)) long ∙ m ∙ ap Err same in
          let b = (items_break (head_in r) (real_in r) 0 (content_of r) x place (omega arith) (omega (arith, long, few))).0 broken in
          (b, omega (arith, long, few, place_lt 0 (content_of r) place x b))

      by_groups : length r ≡ record_size → groups_in r ≤ 5 → (b : Bool)
          → mapped (λ y. Some (kept_in r y)) (cond b (Ok (with_real (real_in r) (single_report (duration_in r) (diversion_in r) (head_in r)))) (read_items (head_in r) (real_in r) (content_bits r) (content_of r))) ≡ told
          → BreaksAt 0 (content_of r) place x × (place < longest)
      by_groups size few true f = absurd (cc)
      by_groups size few false f = by_items size few (read_items (head_in r) (real_in r) (content_bits r) (content_of r)) refl f

      by_use : is_record r && well_formed r ≡ true → (b : Bool) → is_free r ≡ b
          → cond b (Ok None) (mapped (λ y. Some (kept_in r y)) (message_in r)) ≡ told → BreaksAt 0 (content_of r) place x × (place < longest)
      by_use h true z f = absurd (cc)
      by_use h false z f =
          by_groups (eqb-true (length r) record_size (and_left (is_record r) (well_formed r) h))
          (groups_range r (and_right (is_record r) (well_formed r) h) (eqb-false (byte_at r 0) 0 z)).1 (eqb (groups_in r) 1) f

      by_form : (b : Bool) → is_record r && well_formed r ≡ b → cond b (reading_in r) (Err (Refused Malformed)) ≡ told → BreaksAt 0 (content_of r) place x × (place < longest)
      by_form true h f = by_use h (is_free r) refl f
      by_form false h f = absurd (cc)
