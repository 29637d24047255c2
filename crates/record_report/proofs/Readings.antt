-- The ways out of reading a record.
use Prim.Native.Nat.{ℕ, ◌≤◌}
use mathlib.Core.Path.{◌≡◌, sym, ap, ap₂, ◌∙◌}
use mathlib.Core.Bool.{Bool, true, cond, ◌&&◌}
use mathlib.Core.List.{List}
use native.Mathlib.Omega.{arith}
use lib.ListN.{length, take}
use lib.Seq.{take-take}
use lib.Dec.{leb}
use borrow.Author.Tests.{eqb-true, leb-true, eq-eqb, ne_eqb}
use Rattle.bits.specs.Fields.{flat}
use Rattle.std.specs.Prelude.{None, Some, Result, Ok, Err}
use Rattle.report.specs.declared.Report.{Report}
use Rattle.report.specs.declared.Unreadable.{Unreadable}
use Rattle.bits.specs.Outcome.{mapped}
use Rattle.refusal.specs.declared.Refusal.TheVariants.{Malformed}
use Rattle.bits.proofs.Choice.{and_left, and_right, chosen, passed_over}
use Rattle.content.specs.declared.content.Content.{Content}
use Rattle.content.specs.Halves.{bits_of}
use Rattle.content.specs.Packing.{longest}
use Rattle.report.specs.declared.Unreadable.TheVariants.{Refused}
use Rattle.report.specs.Report.{single_report}
use Rattle.report.specs.Read.{read_items}
use Rattle.record.specs.Layout.{record_size, is_record, byte_at, groups_in, head_in, real_in, duration_in, diversion_in, content_in, service_in, expiry_in}
use Rattle.record.specs.Gone.{one_record}
use Rattle.record.specs.WellFormed.{groups_fit, content_bits, well_formed}
use Rattle.record_report.specs.Reads.{with_real, message_in, message_of, kept_in, reading_in, reading_of}

-- the message of a record by its groups
module _ (r : List ℕ) where
  pub single-message : groups_in r ≡ 1 → message_in r ≡ Ok (with_real (real_in r) (single_report (duration_in r) (diversion_in r) (head_in r)))
  unfolding message_in
  single-message e = chosen _ _ _ (eq-eqb (groups_in r) 1 e)

  pub multi-message : (groups_in r ≡ 1 → ⊥) → message_in r ≡ read_items (head_in r) (real_in r) (content_bits r) (take (content_bits r) (flat 8 (content_in r)))
  unfolding message_in
  multi-message e = passed_over _ _ _ (ne_eqb (groups_in r) 1 e)

  -- the message of any bytes, by the test of their groups
  pub has_known : one_record groups_fit r ≡ true → (length r ≡ record_size) × (1 ≤ groups_in r) × (groups_in r ≤ 5)
  unfolding one_record
  has_known h =
      let few = and_right (is_record r) (groups_fit r) h in (
        eqb-true (length r) record_size (and_left (is_record r) (groups_fit r) h),
        leb-true 1 (groups_in r) (and_left (leb 1 (groups_in r)) (leb (groups_in r) 5) few),
        leb-true (groups_in r) 5 (and_right (leb 1 (groups_in r)) (leb (groups_in r) 5) few),
      )

  pub message_by : (b : Bool) → one_record groups_fit r ≡ b → message_of r ≡ cond b (message_in r) (Err (Refused Malformed))
  unfolding message_of
  message_by b e = ap (λ (x : Bool). cond x (message_in r) (Err (Refused Malformed))) e

  -- the first bits of the content as it is held
  pub held-bits : (x : Content) → groups_in r ≤ 5 → take longest (bits_of x) ≡ flat 8 (content_in r) → take (content_bits r) (bits_of x) ≡ take (content_bits r) (flat 8 (content_in r))
  held-bits x few e =
      let short : content_bits r ≤ longest = omega arith in
      sym (take-take (content_bits r) longest (bits_of x) short) ∙ ap (take (content_bits r)) e

  -- the readings of a free and of a used record
  pub free_reading : byte_at r 0 ≡ 0 → reading_in r ≡ Ok None
  unfolding reading_in
  free_reading e = chosen _ _ _ (eq-eqb (byte_at r 0) 0 e)

  pub used_reading : (byte_at r 0 ≡ 0 → ⊥) → reading_in r ≡ mapped (λ x. Some (kept_in r x)) (message_in r)
  unfolding reading_in
  used_reading e = passed_over _ _ _ (ne_eqb (byte_at r 0) 0 e)

  -- a well-formed record is read
  pub fit_reading : length r ≡ record_size → well_formed r ≡ true → reading_of r ≡ reading_in r
  unfolding reading_of
  fit_reading e h = chosen _ _ _ (ap₂ (λ (a b : Bool). a && b) (eq-eqb (length r) record_size e) h)

  -- and of a used record, by its message
  pub used_gives : (x : Result Report Unreadable) → is_record r && well_formed r ≡ true → (byte_at r 0 ≡ 0 → ⊥) → x ≡ message_in r → reading_of r ≡ mapped (λ y. Some (kept_in r y)) x
  unfolding reading_of
  used_gives x h used e = chosen _ _ _ h ∙ used_reading used ∙ ap (mapped (λ y. Some (kept_in r y))) (sym e)
