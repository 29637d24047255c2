-- What the calls on the table leave: `demand2` in Demand2.antt says what they do. `records` are the records of a table in order, and `freed_if p`
-- makes a record free where the test p holds of it and leaves it as it was, byte for byte, where it does not.
use Prim.Native.Nat.{ℕ, ◌*◌, ◌/◌, ◌%◌, ◌<◌}
use native.Mathlib.Omega.{arith}
use mathlib.Core.Path.{◌≡◌, refl, sym, ap, ap₂, subst, ◌∙◌}
use mathlib.Core.Bool.{Bool, true, false, ◌&&◌}
use mathlib.Core.List.{List, map}
use lib.IntN.{ℤ}
use lib.ListN.{length, set, get_or, length-map}
use lib.Seq.{get_or-set_same, get_or-set_other}
use Rattle.std.specs.Prelude.{Some, Result, Ok, Err, is_ok}
use Rattle.refusal.specs.declared.Refusal.{Refusal}
use lib.Dec.{leb, eqb}
use borrow.Author.Tests.{lt-leb}
use Rattle.bits.specs.Bits.{num}
use Rattle.bits.proofs.Choice.{and_left, and_right, chosen, passed_over}
use Rattle.content.specs.Stored.{limit}
use Rattle.report.specs.Fits.{report_fits}
use Rattle.report.specs.Record.{groups_of}
use Rattle.record.specs.Layout.{record_size, free_record, groups_in}
use Rattle.record.specs.Services.{service_fits}
use Rattle.record.specs.Classes.{meet, set_fits}
use Rattle.record.specs.Matching.{matching}
use Rattle.record.specs.Gone.{expired, either, freed_if}
use Rattle.record.specs.WellFormed.{well_formed}
use Rattle.record.proofs.ClassSets.{set_shared}
use Rattle.record.proofs.FreeFits.{free_fits}
use Rattle.record_report.specs.Made.{marks_fit, can_make}
use Rattle.record_report.specs.Normal.{normal}
use Rattle.record_report.specs.Reads.{reading_in}
use Rattle.record_report.proofs.MadeFields.{groups_back, set_back, made_matches}
use Rattle.record_report.proofs.WayBack.{reading_back}
use Rattle.lent.specs.Records.{records, all_of}
use Rattle.lent.specs.Table.{sized, table_fits}
use Rattle.lent.proofs.Lents.{table_whole, table_records, lent_table}
use Rattle.classes.specs.Classes.{set_for}
use Rattle.classes.specs.Keys.{key_of}
use Rattle.classes.proofs.ReportSets.{set_small}
use Rattle.checks.specs.declared.Arrival.{Arrival}
use Rattle.lent.specs.declared.catalogue.Kind.{Kind}
use Rattle.lent.specs.declared.catalogue.Kind.TheVariants.{Ordinary, Cancelling}
use Rattle.lent.specs.Catalogue.{classed}
use Rattle.checks.specs.Events.{is_ordinary, kind_for, expiry_for}
use Rattle.checks.proofs.Checked.{asked_report}
use Rattle.table.specs.declared.WhenFull.{WhenFull}
use Rattle.table.specs.Records.{count_if, free_where, stored}
use Rattle.table.specs.Steps.{after_matching, place_in, after_storing}
use Rattle.table.specs.declared.Answer.{Answer}
use Rattle.table.specs.Expire.{expire_answer, expire_table}
use Rattle.table.specs.Take.{matches, matches_of, kept_of, record_for, taken_table, take_table}
use Rattle.table.specs.Read.{record_at}
use Rattle.table.proofs.Counts.{count_map, count_none, count_set, all-within, all_map, all_set}
use Rattle.table.proofs.Sweeps.{length-records, length_over, records-over}
use Rattle.table.proofs.Storing.{length-stored, records-stored}
use Rattle.table.proofs.Freeing.{freed-either, freed-keeps, each_record, second_gone, length_both, records_both, both_at_once}
use Rattle.table.proofs.Storable.{can_make_lem, record_fits}
use Rattle.table.proofs.Takes.{Accepted, accepted_take, expiry_parts, refused-expiry, accepted_expiry}
use Rattle.table.proofs.Accepted.{matches_never, made_sized, ok, whole, inside, both_whole, both_inside, after-take}

-- record i of a table
abbrev pub record_no : List ℕ → ℕ → List ℕ
record_no t i = get_or (records t) i free_record

-- a test that holds of every record and of a free one holds of every record after freeing, and after storing one that it holds of
free_each : (p q : List ℕ → Bool) (t : List ℕ) → length t % record_size ≡ 0 → p free_record ≡ true → all_of p (records t) ≡ true → all_of p (records (free_where q t)) ≡ true
free_each p q t w free h = ap (all_of p) (records-over (freed_if q) (freed-keeps q) t w) ∙ all_map p (freed_if q) (records t) ∙ all-within p (λ r. p (freed_if q r)) (records t) (λ r fit. freed-either q (λ x. p x ≡ true) r free fit) h

stored-each : (p : List ℕ → Bool) (t r : List ℕ) (i : ℕ) → length t % record_size ≡ 0 → i < length t / record_size → length r ≡ record_size → all_of p (records t) ≡ true → p r ≡ true → all_of p (records (stored t i r)) ≡ true
stored-each p t r i w inside long h e = ap (all_of p) (records-stored t r i w inside long) ∙ all_set p (records t) i r h e

-- a table of the same length whose records are well-formed
pub fits_again : (s t : List ℕ) → length s ≡ length t → all_of well_formed (records s) ≡ true → table_fits t ≡ true → table_fits s ≡ true
unfolding table_fits sized
fits_again s t e each h =
    ap₂ (λ (x y : Bool). x && y) (ap (λ (n : ℕ). leb record_size n && (leb n (1024 * record_size) && eqb (n % record_size) 0)) e ∙ and_left (sized t) (all_of well_formed (records t)) h) each

-- Taking a report.
module _ (t c l : List ℕ) (last : ℕ) (a : Arrival) (lto : ℤ) (full : WhenFull) where
  abbrev minute : ℕ
  minute = a.minute.0

  -- the records that match it, for an ordinary or a cancelling event
  abbrev match : List ℕ → Bool
  match = matches_of c a

  abbrev kind : Kind
  kind = kind_for c a.report

  abbrev after : List ℕ
  after = take_table t c l last a lto full

  -- a take keeps the length of the table, and a well-formed table well-formed
  pub same_length : length after ≡ length t
  unfolding after_storing
  same_length =
      after-take t c l last a lto full (λ u. length u ≡ length t) refl
      (λ fine. length_both minute match (matches_never c a) t (whole t c l last a lto full fine))
      (λ fine ordinary.
      length-stored (after_matching minute match t) (record_for c l a lto) (place_in minute match t) (both_whole t c l last a lto full fine) (both_inside t c l last a lto full fine) (made_sized c l a lto)
      ∙ length_both minute match (matches_never c a) t (whole t c l last a lto full fine))

  -- a test that holds of every record at entry, of a free one and of the one that is stored holds of every record afterwards
  pub each_keeps : (p : List ℕ → Bool) → p free_record ≡ true → (Accepted t c l last a lto full → kind ≡ Ordinary → p (record_for c l a lto) ≡ true) → all_of p (records t) ≡ true → all_of p (records after) ≡ true
  unfolding after_storing
  each_keeps p free made h =
      after-take t c l last a lto full (λ u. all_of p (records u) ≡ true) h both
      (λ fine ordinary.
      stored-each p (after_matching minute match t) (record_for c l a lto) (place_in minute match t) (both_whole t c l last a lto full fine) (both_inside t c l last a lto full fine) (made_sized c l a lto) (both fine)
      (made fine ordinary))
    where
      both : Accepted t c l last a lto full → all_of p (records (after_matching minute match t)) ≡ true
      both fine =
          let w = whole t c l last a lto full fine in
          ap (λ (u : List ℕ). all_of p (records u)) (both_at_once minute match (matches_never c a) t w) ∙ free_each p (either (expired minute) match) t w free h

  pub take-keeps : table_fits t ≡ true → table_fits after ≡ true
  take-keeps fits =
      fits_again after t same_length (each_keeps well_formed free_fits (λ fine ordinary. record_fits t c l last a lto (ok t c l last a lto full fine) ordinary) (table_records t fits)) fits

  module _ (fine : Accepted t c l last a lto full) where
    abbrev freed : List (List ℕ)
    freed = map (freed_if (either (expired minute) match)) (records t)

    none_left : count_if match freed ≡ 0
    none_left = count_map match (λ r. match (freed_if (either (expired minute) match) r)) (freed_if (either (expired minute) match)) (records t) (λ r. refl)
        ∙ count_none (λ r. match (freed_if (either (expired minute) match) r)) (records t) (second_gone (expired minute) match (matches_never c a))

    -- after a cancelling message no record is left of its service, location and direction that shares a class with it
    pub cancelled : kind ≡ Cancelling → count_if match (records after) ≡ 0
    unfolding taken_table
    cancelled is-cancelling =
        ap (λ (u : List ℕ). count_if match (records u)) (accepted_take t c l last a lto full fine ∙ passed_over _ _ _ (ap is_ordinary is-cancelling))
        ∙ ap (count_if match) (records_both minute match (matches_never c a) t (whole t c l last a lto full fine))
        ∙ none_left

    module _ (ordinary : kind ≡ Ordinary) where
      abbrev place : ℕ
      place = place_in minute match t

      room : place < length freed
      room = omega (arith, length-map (records t) (freed_if (either (expired minute) match)), length-records t, inside t c l last a lto full fine)

      -- what its record is made of
      can : can_make (kept_of c l a lto) (set_for c a.report) ≡ true
      can = can_make_lem t c l last a lto (ok t c l last a lto full fine) ordinary

      stored-records : records after ≡ set freed place (record_for c l a lto)
      unfolding taken_table after_storing
      stored-records =
          ap records (accepted_take t c l last a lto full fine ∙ chosen _ _ _ (ap is_ordinary ordinary))
          ∙ records-stored (after_matching minute match t) (record_for c l a lto) place (both_whole t c l last a lto full fine) (both_inside t c l last a lto full fine) (made_sized c l a lto)
          ∙ ap (λ (rs : List (List ℕ)). set rs place (record_for c l a lto)) (records_both minute match (matches_never c a) t (whole t c l last a lto full fine))

      -- the report of an ordinary event is stored, and every other record is free if it has expired or matches and else is as it was
      pub stored_there : record_no after place ≡ record_for c l a lto
      stored_there = ap (λ (us : List (List ℕ)). get_or us place free_record) stored-records ∙ get_or-set_same freed place (record_for c l a lto) free_record room

      pub other_records : (i : ℕ) → (i ≡ place → ⊥) → record_no after i ≡ freed_if (either (expired minute) match) (record_no t i)
      other_records i other =
          ap (λ (us : List (List ℕ)). get_or us i free_record) stored-records ∙ get_or-set_other freed place i (record_for c l a lto) free_record other ∙ each_record (either (expired minute) match) (records t) i

      -- in the fewest groups that hold it (`single-groups`, `fewest_groups` in record)
      pub stored-groups : groups_in (record_no after place) ≡ groups_of a.report
      stored-groups = ap groups_in stored_there ∙ groups_back (kept_of c l a lto) (set_for c a.report)

      -- it matches its own report, whose classes it has
      own_matches : matching (key_of c a.service a.report) (record_for c l a lto) ≡ true
      unfolding can_make
      own_matches =
          let set = set_for c a.report in
          let some = set_shared set (and_left (set_fits set) (leb 1 (expiry_for c l a lto)) (and_right (service_fits a.service) (set_fits set && leb 1 (expiry_for c l a lto)) (and_left (marks_fit (kept_of c l a lto) set) (report_fits a.report) can))) in
          made_matches (kept_of c l a lto) set set (ap (meet set) (set_back (kept_of c l a lto) set (set_small c a.report)) ∙ some)

      -- it is then the only one of its service, location and direction that shares a class with it
      pub only_record : count_if match (records after) ≡ 1
      unfolding matches num
      only_record =
          let own : match (record_for c l a lto) ≡ true = ap₂ (λ (x y : Bool). x && y) (ap classed ordinary) own_matches in
          let free : match (get_or freed place free_record) ≡ false = ap match (each_record (either (expired minute) match) (records t) place) ∙ second_gone (expired minute) match (matches_never c a) (record_no t place) in
          let old : num (match (get_or freed place free_record)) ≡ 0 = ap num free in
          let new : num (match (record_for c l a lto)) ≡ 1 = ap num own in
          ap (count_if match) stored-records ∙ omega (arith, count_set match freed place (record_for c l a lto) free_record room, none_left, old, new)

      -- and reads back as that report in its normal form, with its service and its expiry
      pub stored-reads : length a.report.items.places ≡ limit → record_at after place ≡ Ok (Some (record { report = normal a.service a.report; service = a.service; expiry = record { 0 = expiry_for c l a lto } }))
      unfolding record_at
      stored-reads sized =
          let within : leb (length after / record_size) place ≡ false = lt-leb (length after / record_size) place (subst (λ (n : ℕ). place < n / record_size) (sym same_length) (inside t c l last a lto full fine)) in
          chosen _ _ _ (take-keeps (lent_table t c l (ok t c l last a lto full fine).lent))
          ∙ passed_over _ _ _ within
          ∙ ap reading_in stored_there
          ∙ reading_back (kept_of c l a lto) (set_for c a.report) sized (asked_report t c l last a lto (ok t c l last a lto full fine).asked)

-- Expiry alone keeps a well-formed table well-formed, and every test that holds of its records and of a free one.
module _ (t : List ℕ) (last minute : ℕ) where
  expiry-keeps : (P : List ℕ → Type 0) → P t → (table_fits t ≡ true → P (free_where (expired minute) t)) → P (expire_table t last minute)
  expiry-keeps P here freed = by_answer (expire_answer t last minute) refl
    where
      by_answer : (r : Result Answer Refusal) → expire_answer t last minute ≡ r → P (expire_table t last minute)
      by_answer (Ok x) e = subst P (sym (accepted_expiry t last minute (ap is_ok e))) (freed (expiry_parts t last minute (ap is_ok e)).0)
      by_answer (Err x) e = subst P (sym (refused-expiry t last minute x e)) here

  pub each-keeps-expiry : (p : List ℕ → Bool) → p free_record ≡ true → all_of p (records t) ≡ true → all_of p (records (expire_table t last minute)) ≡ true
  each-keeps-expiry p free h = expiry-keeps (λ u. all_of p (records u) ≡ true) h (λ fits. free_each p (expired minute) t (table_whole t fits) free h)

  pub expire-keeps : table_fits t ≡ true → table_fits (expire_table t last minute) ≡ true
  expire-keeps fits =
      fits_again (expire_table t last minute) t
      (expiry-keeps (λ u. length u ≡ length t) refl (λ h. length_over (freed_if (expired minute)) (freed-keeps (expired minute)) t (table_whole t h)))
      (each-keeps-expiry well_formed free_fits (table_records t fits))
      fits
