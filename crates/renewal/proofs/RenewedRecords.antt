-- One record renewed: it is as well-formed as it was, says the same, and its set is current.
use Prim.Native.Nat.{ℕ, zero, suc, ◌+◌, ◌-◌, ◌*◌, ◌/◌, ◌%◌, ◌^◌, ◌<◌}
use native.Mathlib.Omega.{arith}
use mathlib.Core.Path.{◌≡◌, refl, sym, ap, ap₂, ◌∙◌}
use mathlib.Core.Bool.{Bool, true, false, cond, not, ◌&&◌, ◌||◌, and_assoc}
use mathlib.Core.List.{List, [], ◌∷◌, ◌++◌}
use lib.ListN.{length, take, drop, get_or, replicate, length-drop, take-append-drop}
use lib.Seq.{take_at, drop_at, get_or-drop, length-take-le, ext_get_or}
use lib.Dec.{eqb, leb, ltb}
use borrow.Author.Tests.{eqb-true, eq-eqb, ltb-true}
use Rattle.bits.specs.Bits.{all_zero}
use Rattle.bits.specs.Fields.{flat}
use Rattle.std.specs.Prelude.{Ok, Err, is_ok}
use Rattle.bits.specs.Outcome.{mapped, refused_as}
use Rattle.bits.proofs.Choice.{and_left, and_right}
use Rattle.content.specs.Items as content
use Rattle.content.specs.Content.{content}
use Rattle.content.specs.Packing.{group_bits}
use Rattle.report.specs.Report.{single_report, multi_report}
use Rattle.refusal.specs.declared.Refusal.TheVariants.{Malformed}
use Rattle.report.specs.declared.Unreadable.TheVariants.{Refused}
use Rattle.report.specs.Read.{Reading, placed, read_items}
use Rattle.record.specs.Layout.{record_size, byte_at, is_free, groups_in, head_in, real_in, duration_in, diversion_in, event_in, expiry_in, content_in, four_at, four_bytes, eight_at, eight_bytes, set_at, set_in, with_set}
use Rattle.record.specs.Classes.{set_of, set_fits}
use Rattle.record.specs.WellFormed.{widths, within, ranges_fit, marked, groups_fit, complete, content_bits, spare_in, rest_fits, well_formed}
use Rattle.record.specs.Gone.{one_record}
use Rattle.record.proofs.StoredSets.{set-put, set_back, eight-within}
use Rattle.record_report.specs.Reads.{with_real, message_in, message_of}
use Rattle.lent.specs.Catalogue.{entry_at, has_class, catalogue_fits}
use Rattle.classes.proofs.ReportSets.{set_small, set-fits}
use Rattle.table.proofs.Counts.{clash}
use Rattle.renewal.specs.Classes.{message_classes, classes_in, classed}
use Rattle.renewal.specs.Renewal.{renewed}
use Rattle.renewal.specs.Current.{current}
use Rattle.renewal.proofs.Fronts.{same_byte, same-content, same-event, same-expiry, same-message}
use Rattle.renewal.proofs.Renewals.{renewed-either}

-- ranges by a place: those of the bytes before it, and of the others
within_none : (ws : List ℕ) → within ws [] ≡ true
unfolding within
within_none [] = refl
within_none (w ∷ ws) = refl

within_split : (n : ℕ) (ws xs : List ℕ) → within ws xs ≡ within (take n ws) (take n xs) && within (drop n ws) (drop n xs)
unfolding within
within_split zero ws xs = refl
within_split (suc n) [] xs = refl
within_split (suc n) (w ∷ ws) [] = sym (within_none (drop n ws))
within_split (suc n) (w ∷ ws) (x ∷ xs) = ap (λ (b : Bool). ltb x (2 ^ w) && b) (within_split n ws xs) ∙ sym (and_assoc (ltb x (2 ^ w)) (within (take n ws) (take n xs)) (within (drop n ws) (drop n xs)))

bytes_lt : (n : ℕ) (l : List ℕ) (j : ℕ) → within (replicate n 8) l ≡ true → j < n → get_or l j 0 < 256
unfolding within
bytes_lt zero l j h k = absurd (omega arith)
bytes_lt (suc n) [] j h k = omega arith
bytes_lt (suc n) (x ∷ l) zero h k = ltb-true x 256 (and_left (ltb x 256) (within (replicate n 8) l) h)
bytes_lt (suc n) (x ∷ l) (suc j) h k = bytes_lt n l j (and_right (ltb x 256) (within (replicate n 8) l) h) (omega arith)

-- eight bytes are those of the number that they are
past_one : (v m : ℕ) → v < 0x100 → ((v + 0x100 * m) % 256 ≡ v) × ((v + 0x100 * m) / 0x100 ≡ m)
past_one v m h = (omega arith, omega arith)

past_two : (v m : ℕ) → v < 0x1_0000 → (v + 0x1_0000 * m) / 0x1_0000 ≡ m
past_two v m h = omega arith

past_three : (v m : ℕ) → v < 0x100_0000 → (v + 0x100_0000 * m) / 0x100_0000 ≡ m
past_three v m h = omega arith

past-four : (v m : ℕ) → v < 0x1_0000_0000 → ((v + 0x1_0000_0000 * m) % 0x1_0000_0000 ≡ v) × ((v + 0x1_0000_0000 * m) / 0x1_0000_0000 ≡ m)
past-four v m h = (omega arith, omega arith)

four_bytes_lem : (w x y z : ℕ) → w < 256 → x < 256 → y < 256 → z < 256 → four_bytes (w + 0x100 * x + 0x1_0000 * y + 0x100_0000 * z) ≡ w ∷ x ∷ y ∷ z ∷ []
four_bytes_lem w x y z hw hx hy hz =
    let n = w + 0x100 * x + 0x1_0000 * y + 0x100_0000 * z in
    let one : n ≡ w + 0x100 * (x + 0x100 * (y + 0x100 * z)) = omega arith in
    let two : n ≡ w + 0x100 * x + 0x1_0000 * (y + 0x100 * z) = omega arith in
    let ew : n % 256 ≡ w = ap (λ (k : ℕ). k % 256) one ∙ (past_one w (x + 0x100 * (y + 0x100 * z)) hw).0 in
    let ex : n / 0x100 % 256 ≡ x = ap (λ (k : ℕ). k / 0x100 % 256) one ∙ ap (λ (k : ℕ). k % 256) (past_one w (x + 0x100 * (y + 0x100 * z)) hw).1 ∙ (past_one x (y + 0x100 * z) hx).0 in
    let ey : n / 0x1_0000 % 256 ≡ y = ap (λ (k : ℕ). k / 0x1_0000 % 256) two ∙ ap (λ (k : ℕ). k % 256) (past_two (w + 0x100 * x) (y + 0x100 * z) (omega arith)) ∙ (past_one y z hy).0 in
    let ez : n / 0x100_0000 ≡ z = past_three (w + 0x100 * x + 0x1_0000 * y) z (omega arith) in
    λ i. ew i ∷ ex i ∷ ey i ∷ ez i ∷ []

eight-listed : (l : List ℕ) → length l ≡ 8 → byte_at l 0 ∷ byte_at l 1 ∷ byte_at l 2 ∷ byte_at l 3 ∷ byte_at l 4 ∷ byte_at l 5 ∷ byte_at l 6 ∷ byte_at l 7 ∷ [] ≡ l
eight-listed l e = ext_get_or 0 (byte_at l 0 ∷ byte_at l 1 ∷ byte_at l 2 ∷ byte_at l 3 ∷ byte_at l 4 ∷ byte_at l 5 ∷ byte_at l 6 ∷ byte_at l 7 ∷ []) l (sym e) at
  where
    at : (i : ℕ) → i < 8 → get_or (byte_at l 0 ∷ byte_at l 1 ∷ byte_at l 2 ∷ byte_at l 3 ∷ byte_at l 4 ∷ byte_at l 5 ∷ byte_at l 6 ∷ byte_at l 7 ∷ []) i 0 ≡ get_or l i 0
    at zero h = refl
    at (suc zero) h = refl
    at (suc (suc zero)) h = refl
    at (suc (suc (suc zero))) h = refl
    at (suc (suc (suc (suc zero)))) h = refl
    at (suc (suc (suc (suc (suc zero))))) h = refl
    at (suc (suc (suc (suc (suc (suc zero)))))) h = refl
    at (suc (suc (suc (suc (suc (suc (suc zero))))))) h = refl
    at (suc (suc (suc (suc (suc (suc (suc (suc i)))))))) h = absurd (omega arith)

eight-bytes : (l : List ℕ) → length l ≡ 8 → ((j : ℕ) → j < 8 → get_or l j 0 < 256) → eight_bytes (eight_at l 0) ≡ l
eight-bytes l e h =
    let h0 = h 0 (omega arith) in
    let h1 = h 1 (omega arith) in
    let h2 = h 2 (omega arith) in
    let h3 = h 3 (omega arith) in
    let halves = past-four (four_at l 0) (four_at l 4) (omega arith) in
    ap₂ (λ (x y : ℕ). four_bytes x ++ four_bytes y) halves.0 halves.1
    ∙ ap₂ (λ (x y : List ℕ). x ++ y) (four_bytes_lem (byte_at l 0) (byte_at l 1) (byte_at l 2) (byte_at l 3) h0 h1 h2 h3) (four_bytes_lem (byte_at l 4) (byte_at l 5) (byte_at l 6) (byte_at l 7) (h 4 (omega arith)) (h 5 (omega arith)) (h 6 (omega arith)) (h 7 (omega arith)))
    ∙ eight-listed l e

-- a record with another set
module _ (r : List ℕ) (long : length r ≡ record_size) where
  front : length (take set_at r) ≡ set_at
  front = length-take-le set_at r (omega arith)

  rest : length (drop set_at r) ≡ 8
  rest = omega (arith, length-drop set_at r)

  module _ (n : ℕ) where
    -- what the bytes before the set say is as it was
    as_it_was : {A : Type 0} (g : List ℕ → A) → g (take set_at r ++ eight_bytes n) ≡ g (take set_at r ++ drop set_at r) → g (with_set n r) ≡ g r
    as_it_was g e = ap g (set-put n r long) ∙ e ∙ ap g (take-append-drop set_at r)

    free_put : is_free (with_set n r) ≡ is_free r
    free_put = as_it_was is_free (ap (λ (k : ℕ). eqb k 0) (same_byte (take set_at r) (eight_bytes n) (drop set_at r) front 0 (omega arith)))

    groups-put : groups_in (with_set n r) ≡ groups_in r
    groups-put = as_it_was groups_in (same_byte (take set_at r) (eight_bytes n) (drop set_at r) front 1 (omega arith))

    event-put : event_in (with_set n r) ≡ event_in r
    event-put = as_it_was event_in (same-event (take set_at r) (eight_bytes n) (drop set_at r) front)

    expiry-put : expiry_in (with_set n r) ≡ expiry_in r
    expiry-put = as_it_was expiry_in (same-expiry (take set_at r) (eight_bytes n) (drop set_at r) front)

    content-put : content_in (with_set n r) ≡ content_in r
    content-put = as_it_was content_in (same-content (take set_at r) (eight_bytes n) (drop set_at r) front)

    pub message-put : message_of (with_set n r) ≡ message_of r
    message-put = as_it_was message_of (same-message (take set_at r) (eight_bytes n) (drop set_at r) front (sym rest))

  module _ (fits : well_formed r ≡ true) (used : is_free r ≡ false) where
    ranges : within (take set_at widths) (take set_at r) && within (replicate 8 8) (drop set_at r) ≡ true
    unfolding well_formed ranges_fit widths
    ranges =
        sym (within_split set_at widths r)
        ∙ sym (ap (λ (b : Bool). within (cond b (replicate record_size 0) widths) r) used)
        ∙ and_left (ranges_fit r) (rest_fits r) fits

    used-rest : complete r && all_zero (spare_in r) ≡ true
    unfolding well_formed rest_fits
    used-rest = sym (ap (λ (b : Bool). b || complete r && all_zero (spare_in r)) used) ∙ and_right (ranges_fit r) (rest_fits r) fits

    -- with its own
    pub own_set : with_set (set_in r) r ≡ r
    own_set =
        let at : (j : ℕ) → byte_at r (set_at + j) ≡ byte_at (drop set_at r) j = λ j. sym (get_or-drop set_at r j 0) in
        let low : four_at r set_at ≡ four_at (drop set_at r) 0 = λ i. at 0 i + 0x100 * at 1 i + 0x1_0000 * at 2 i + 0x100_0000 * at 3 i in
        let high : four_at r (set_at + 4) ≡ four_at (drop set_at r) 4 = λ i. at 4 i + 0x100 * at 5 i + 0x1_0000 * at 6 i + 0x100_0000 * at 7 i in
        set-put (set_in r) r long
        ∙ ap₂ (λ (x y : ℕ). take set_at r ++ eight_bytes (x + 0x1_0000_0000 * y)) low high
        ∙ ap (λ (l : List ℕ). take set_at r ++ l) (eight-bytes (drop set_at r) rest (λ j k. bytes_lt 8 (drop set_at r) j (and_right (within (take set_at widths) (take set_at r)) (within (replicate 8 8) (drop set_at r)) ranges) k))
        ∙ take-append-drop set_at r

    -- with one that a record may have
    module _ (n : ℕ) (small : n < 2 ^ 64) (some : set_fits n ≡ true) where
      put_ranges : ranges_fit (with_set n r) ≡ true
      unfolding ranges_fit widths
      put_ranges =
          ap (λ (b : Bool). within (cond b (replicate record_size 0) widths) (with_set n r)) (free_put n ∙ used)
          ∙ ap (within widths) (set-put n r long)
          ∙ within_split set_at widths (take set_at r ++ eight_bytes n)
          ∙ ap₂ (λ (x y : List ℕ). within (take set_at widths) x && within (replicate 8 8) y) (take_at (take set_at r) (eight_bytes n) set_at front) (drop_at (take set_at r) (eight_bytes n) set_at front)
          ∙ ap₂ (λ (a b : Bool). a && b) (and_left (within (take set_at widths) (take set_at r)) (within (replicate 8 8) (drop set_at r)) ranges) (eight-within n small)

      put-complete : complete (with_set n r) ≡ true
      unfolding complete marked
      put-complete =
          let was = and_left (complete r) (all_zero (spare_in r)) used-rest in
          let groups = and_left (groups_fit r) (marked r) was in
          let ends = and_left (not (eqb (expiry_in r) 0)) (set_fits (set_in r)) (and_right (groups_fit r) (marked r) was) in
          ap₂ (λ (a b : Bool). a && b) (ap (λ (k : ℕ). leb 1 k && leb k 5) (groups-put n) ∙ groups)
          (ap₂ (λ (a b : Bool). a && b) (ap (λ (k : ℕ). not (eqb k 0)) (expiry-put n) ∙ ends) (ap set_fits (set_back n r long small) ∙ some))

      pub put-fits : well_formed (with_set n r) ≡ true
      unfolding well_formed rest_fits
      put-fits =
          let spare : all_zero (spare_in (with_set n r)) ≡ true = ap₂ (λ (k : ℕ) (l : List ℕ). all_zero (drop (group_bits * (k - 1)) (flat 8 l))) (groups-put n) (content-put n) ∙ and_right (complete r) (all_zero (spare_in r)) used-rest in
          ap₂ (λ (a b : Bool). a && b) put_ranges (ap (λ (b : Bool). b || complete (with_set n r) && all_zero (spare_in (with_set n r))) (free_put n ∙ used) ∙ ap₂ (λ (a b : Bool). a && b) put-complete spare)

-- the first event of a record's message is the record's
told : ℕ → Reading → ℕ
told event (Ok x) = x.head.event
told event (Err u) = event

event_told : (r : List ℕ) → told (event_in r) (message_of r) ≡ event_in r
unfolding told message_of message_in read_items
event_told r = by_groups (one_record groups_fit r)
  where
    by_outcome : (o : content.Reading) → told (event_in r) (refused_as (placed (content_bits r)) (mapped (multi_report (head_in r) (real_in r)) o)) ≡ event_in r
    by_outcome (Ok its) = refl
    by_outcome (Err u) = refl

    by_single : (b : Bool) → told (event_in r) (cond b (Ok (with_real (real_in r) (single_report (duration_in r) (diversion_in r) (head_in r)))) (read_items (head_in r) (real_in r) (content_bits r) (take (content_bits r) (flat 8 (content_in r))))) ≡ event_in r
    by_single true = refl
    by_single false = by_outcome (content (take (content_bits r) (flat 8 (content_in r))))

    by_groups : (b : Bool) → told (event_in r) (cond b (message_in r) (Err (Refused Malformed))) ≡ event_in r
    by_groups true = by_single (eqb (groups_in r) 1)
    by_groups false = refl

module _ (c r : List ℕ) where
  -- its classes make a set that a record may have
  pub classes_small : set_of (classes_in c r) < 2 ^ 64
  unfolding classes_in set_of
  classes_small = by_message (message_of r)
    where
      by_message : (m : Reading) → set_of (message_classes c m) < 2 ^ 64
      by_message (Ok x) = set_small c x
      by_message (Err u) = omega arith

  classes-fit : catalogue_fits c ≡ true → is_free r ≡ false → classed c r ≡ true → set_fits (set_of (classes_in c r)) ≡ true
  unfolding classes_in classed told
  classes-fit fits used h =
      let both = sym (ap (λ (b : Bool). b || is_ok (message_of r) && has_class (entry_at c (event_in r))) used) ∙ h in
      by_message (message_of r) (event_told r) (and_left (is_ok (message_of r)) (has_class (entry_at c (event_in r))) both) (and_right (is_ok (message_of r)) (has_class (entry_at c (event_in r))) both)
    where
      by_message : (m : Reading) → told (event_in r) m ≡ event_in r → is_ok m ≡ true → has_class (entry_at c (event_in r)) ≡ true → set_fits (set_of (message_classes c m)) ≡ true
      by_message (Ok x) e g has = set-fits c x fits (ap (λ (n : ℕ). has_class (entry_at c n)) e ∙ has)
      by_message (Err u) e g has = clash refl (sym g)

  module _ (long : length r ≡ record_size) where
    abbrev set : ℕ
    set = set_of (classes_in c r)

    put-classes : classes_in c (with_set set r) ≡ classes_in c r
    unfolding classes_in
    put-classes = ap (message_classes c) (message-put r long set)

    -- renewed, it is current
    pub renewed-current : current c (renewed c r) ≡ true
    unfolding current
    renewed-current =
        renewed-either c r (λ x. current c x ≡ true) (λ free. ap (λ (b : Bool). b || eqb (set_in r) set) free) (λ used.
        let same : set_in (with_set set r) ≡ set_of (classes_in c (with_set set r)) = set_back set r long classes_small ∙ sym (ap set_of put-classes) in
        ap₂ (λ (a b : Bool). a || b) (free_put r long set ∙ used) (eq-eqb _ _ same))

    -- its content and its first event are as they were
    pub renewed-classed : classed c r ≡ true → classed c (renewed c r) ≡ true
    unfolding classed
    renewed-classed h =
        renewed-either c r (λ x. classed c x ≡ true) (λ free. h) (λ used.
        (λ i. free_put r long set i || is_ok (message-put r long set i) && has_class (entry_at c (event-put r long set i))) ∙ h)

    pub renewed-fits : well_formed r ≡ true → catalogue_fits c ≡ true → classed c r ≡ true → well_formed (renewed c r) ≡ true
    renewed-fits fits catalogue h = renewed-either c r (λ x. well_formed x ≡ true) (λ free. fits) (λ used. put-fits r long fits used set classes_small (classes-fit catalogue used h))

    -- where it is current, it stays
    pub current_stays : well_formed r ≡ true → current c r ≡ true → renewed c r ≡ r
    unfolding current
    current_stays fits h =
        renewed-either c r (λ x. x ≡ r) (λ free. refl) (λ used.
        let same = eqb-true (set_in r) set (sym (ap (λ (b : Bool). b || eqb (set_in r) set) used) ∙ h) in
        ap (λ (n : ℕ). with_set n r) (sym same) ∙ own_set r long fits used)
