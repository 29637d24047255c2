-- What a record says but for its set stands in the bytes before the set: a record with another set says the same.
use Prim.Native.Nat.{ℕ, ◌+◌, ◌-◌, ◌*◌, ◌≤◌, ◌<◌}
use native.Mathlib.Omega.{arith}
use mathlib.Core.Path.{◌≡◌, sym, ap, ap₂, ◌∙◌}
use mathlib.Core.Bool.{cond, ◌&&◌}
use mathlib.Core.List.{List, ◌++◌}
use lib.ListN.{length, take, drop, get_or, length-append, length-drop}
use lib.Seq.{take-append-le, drop-append-le, take_at, get_or-take}
use lib.Dec.{eqb, leb}
use Rattle.bits.specs.Fields.{flat}
use Rattle.std.specs.Prelude.{Ok, Err}
use Rattle.content.specs.Packing.{group_bits}
use Rattle.report.specs.Report.{single_report}
use Rattle.refusal.specs.declared.Refusal.TheVariants.{Malformed}
use Rattle.report.specs.declared.Unreadable.TheVariants.{Refused}
use Rattle.report.specs.Read.{read_items}
use Rattle.record.specs.Locations.{head_location, real_location}
use Rattle.record.specs.Layout.{record_size, byte_at, two_at, service_in, location_in, head_in, expiry_in, event_in, content_in, set_at}
use Rattle.record.specs.Gone.{one_record}
use Rattle.record_report.specs.Reads.{with_real, message_in, message_of}

module _ (f a b : List ℕ) (long : length f ≡ set_at) where
  byte_front : (x : List ℕ) (j : ℕ) → j < set_at → byte_at (f ++ x) j ≡ byte_at f j
  byte_front x j h = sym (get_or-take set_at (f ++ x) j 0 h) ∙ ap (λ (l : List ℕ). get_or l j 0) (take_at f x set_at long)

  -- the two have the same bytes
  pub same_byte : (j : ℕ) → j < set_at → byte_at (f ++ a) j ≡ byte_at (f ++ b) j
  same_byte j h = byte_front a j h ∙ sym (byte_front b j h)

  content_front : (x : List ℕ) → content_in (f ++ x) ≡ take 14 (drop 16 f)
  content_front x =
      let inside : 16 ≤ length f = omega arith in
      let room : 14 ≤ length (drop 16 f) = omega (arith, length-drop 16 f) in
      ap (take 14) (drop-append-le 16 f x inside) ∙ take-append-le 14 (drop 16 f) x room

  pub same-content : content_in (f ++ a) ≡ content_in (f ++ b)
  same-content = content_front a ∙ sym (content_front b)

  same-two : (j : ℕ) → j + 1 < set_at → two_at (f ++ a) j ≡ two_at (f ++ b) j
  same-two j h = let x = same_byte j (omega arith) in let y = same_byte (j + 1) h in λ i. x i + 0x100 * y i

  pub same-event : event_in (f ++ a) ≡ event_in (f ++ b)
  same-event = same-two 6 (omega arith)

  pub same-expiry : expiry_in (f ++ a) ≡ expiry_in (f ++ b)
  same-expiry =
      let w = same_byte 12 (omega arith) in
      let x = same_byte 13 (omega arith) in
      let y = same_byte 14 (omega arith) in
      let z = same_byte 15 (omega arith) in
      λ i. w i + 0x100 * x i + 0x1_0000 * y i + 0x100_0000 * z i

  same-service : service_in (f ++ a) ≡ service_in (f ++ b)
  same-service =
      let country = same_byte 31 (omega arith) in
      let ltn = same_byte 3 (omega arith) in
      let sid = same_byte 2 (omega arith) in
      λ i. record { country = country i; ltn = ltn i; sid = sid i }

  same-location : location_in (f ++ a) ≡ location_in (f ++ b)
  same-location =
      let country = same_byte 32 (omega arith) in
      let ltn = same_byte 33 (omega arith) in
      let code = same-two 4 (omega arith) in
      λ i. record { country = country i; ltn = ltn i; code = code i }

  same_head : head_in (f ++ a) ≡ head_in (f ++ b)
  same_head =
      let direction = same_byte 8 (omega arith) in
      let extent = same_byte 9 (omega arith) in
      let location = ap₂ head_location same-service same-location in
      λ i. record { direction = direction i; extent = extent i; event = same-event i; location = location i }

  same-message_in : message_in (f ++ a) ≡ message_in (f ++ b)
  unfolding message_in
  same-message_in =
      let groups = same_byte 1 (omega arith) in
      let diversion = same_byte 10 (omega arith) in
      let duration = same_byte 11 (omega arith) in
      let real = ap₂ real_location same-service same-location in
      λ i.
      cond (eqb (groups i) 1) (Ok (with_real (real i) (single_report (duration i) (diversion i) (same_head i))))
      (read_items (same_head i) (real i) (group_bits * (groups i - 1)) (take (group_bits * (groups i - 1)) (flat 8 (same-content i))))

  -- and the same message
  pub same-message : length a ≡ length b → message_of (f ++ a) ≡ message_of (f ++ b)
  unfolding message_of one_record
  same-message e =
      let size : length (f ++ a) ≡ length (f ++ b) = length-append f a ∙ ap (λ (n : ℕ). length f + n) e ∙ sym (length-append f b) in
      let groups = same_byte 1 (omega arith) in
      λ i. cond (eqb (size i) record_size && (leb 1 (groups i) && leb (groups i) 5)) (same-message_in i) (Err (Refused Malformed))
