-- What a renewal does, and what holds of every table that the calls make with one catalogue: each used record's set is what its events and
-- the catalogue give, so that renewing with that catalogue changes nothing, and matching by the sets is matching by the events.
use Prim.Native.Nat.{ℕ, zero, suc, ◌*◌, ◌/◌, ◌%◌, ◌≤◌}
use native.Mathlib.Omega.{arith}
use mathlib.Core.Path.{◌≡◌, refl, sym, ap, ap₂, subst, ◌∙◌}
use mathlib.Core.Bool.{Bool, true, false, not, ◌&&◌, ◌||◌}
use mathlib.Core.List.{List, [], ◌∷◌, map}
use lib.IntN.{ℤ}
use lib.ListN.{length, take, drop, get_or, length-drop}
use lib.Seq.{length-take-le, take_at}
use lib.Dec.{eqb}
use borrow.Author.Tests.{eqb-true, eq-eqb}
use Rattle.bits.specs.Lists.{joined}
use Rattle.bits.proofs.Choice.{and_left, and_right}
use Rattle.content.specs.Stored.{limit}
use Rattle.report.specs.declared.Report.{Report}
use Rattle.record.specs.declared.Service.{Service}
use Rattle.record.specs.Layout.{record_size, is_record, free_record, is_free, service_in, location_in, direction_in, eight_bytes, set_at, set_in}
use Rattle.record.specs.Locations.{location_of}
use Rattle.record.specs.Classes.{share, set_of, meet}
use Rattle.record.specs.WellFormed.{well_formed}
use Rattle.record.specs.Matching.{same_service, same_location, matching}
use Rattle.record.proofs.ClassSets.{sets_share}
use Rattle.record.proofs.StoredSets.{set-put}
use Rattle.lent.specs.Records.{chunks, records, all_of}
use Rattle.lent.specs.Table.{table_fits}
use Rattle.lent.specs.declared.catalogue.Kind.TheVariants.{Ordinary}
use Rattle.lent.specs.Catalogue.{classed as classed-kind, catalogue_fits}
use Rattle.lent.proofs.Lents.{table_whole, table_records}
use Rattle.classes.specs.Classes.{classes_of, set_for}
use Rattle.classes.specs.Keys.{key_of}
use Rattle.classes.proofs.ReportSets.{set_small}
use Rattle.checks.specs.declared.Arrival.{Arrival}
use Rattle.checks.specs.Events.{kind_for}
use Rattle.checks.proofs.Checked.{Checked, ends}
use Rattle.table.specs.Effect.{used_in}
use Rattle.table.specs.declared.WhenFull.{WhenFull}
use Rattle.table.specs.Take.{kept_of, record_for}
use Rattle.table.proofs.Takes.{Accepted}
use Rattle.table.specs.Records.{over}
use Rattle.table.proofs.Counts.{all-within, all_both, all_map}
use Rattle.table.proofs.Sweeps.{length_over, records-over}
use Rattle.table.proofs.Storing.{joined-records}
use Rattle.table.proofs.Storable.{can_make_lem}
use Rattle.table.proofs.Accepted.{ok}
use Rattle.table.proofs.Theorems.{record_no, fits_again, each_keeps, each-keeps-expiry}
use Rattle.std.specs.Prelude.{Ok}
use Rattle.renewal.specs.Classes.{classes_in, classed, all_classed}
use Rattle.renewal.specs.Renewal.{renewed, renew_fits, renew_answer, renew_table}
use Rattle.renewal.specs.Current.{current, all_current, Made, starts, brings, takes, expires, renews, matching_by_events}
use Rattle.renewal.proofs.Renewals.{renewed-either, renewed-keeps, fits_table, fits_catalogue, fits-classed, refused_renewal, accepted_renewal}
use Rattle.renewal.proofs.MadeClasses.{made_classed, made_current, free_classed, free_current}
use Rattle.renewal.proofs.RenewedRecords.{renewed-current, renewed-classed, renewed-fits, current_stays}

-- the records of a table have their size
records-sized : (t : List ℕ) → all_of is_record (records t) ≡ true
unfolding records chunks
records-sized t = sized (length t / record_size) t (omega arith)
  where
    sized : (n : ℕ) (u : List ℕ) → n * record_size ≤ length u → all_of is_record (chunks n u) ≡ true
    sized zero u h = refl
    sized (suc n) u h = ap₂ (λ (a b : Bool). a && b) (eq-eqb (length (take record_size u)) record_size (length-take-le record_size u (omega arith))) (sized n (drop record_size u) (omega (arith, length-drop record_size u)))

-- a test holds of record i if it holds of all and of a free one
each_one : (p : List ℕ → Bool) (rs : List (List ℕ)) (i : ℕ) → all_of p rs ≡ true → p free_record ≡ true → p (get_or rs i free_record) ≡ true
each_one p [] i h free = free
each_one p (r ∷ rs) zero h free = and_left (p r) (all_of p rs) h
each_one p (r ∷ rs) (suc i) h free = each_one p rs i (and_right (p r) (all_of p rs) h) free

-- a renewal changes nothing of a record but the set
pub renewed_front : (c r : List ℕ) → length r ≡ record_size → take set_at (renewed c r) ≡ take set_at r
renewed_front c r long =
    renewed-either c r (λ x. take set_at x ≡ take set_at r) (λ free. refl) (λ used.
    ap (take set_at) (set-put (set_of (classes_in c r)) r long) ∙ take_at (take set_at r) (eight_bytes (set_of (classes_in c r))) set_at (length-take-le set_at r (omega arith)))

-- A renewal that is accepted.
module _ (t c : List ℕ) (fits : renew_fits t c ≡ true) where
  whole : length t % record_size ≡ 0
  whole = table_whole t (fits_table t c fits)

  -- every record is renewed
  pub records-renewed : records (renew_table t c) ≡ map (renewed c) (records t)
  records-renewed = ap records (accepted_renewal t c fits).1 ∙ records-over (renewed c) (renewed-keeps c) t whole

  -- what a test says of records of their size that are well-formed and have classes, of those renewed
  each-renewed : (p : List ℕ → Bool) → ((r : List ℕ) → length r ≡ record_size → well_formed r ≡ true → classed c r ≡ true → p (renewed c r) ≡ true) → all_of p (records (renew_table t c)) ≡ true
  each-renewed p says =
      let tests = all_both is_record (λ r. well_formed r && classed c r) (records t) (records-sized t) (all_both well_formed (classed c) (records t) (table_records t (fits_table t c fits)) (fits-classed t c fits)) in
      ap (all_of p) records-renewed
      ∙ all_map p (renewed c) (records t)
      ∙ all-within (λ r. is_record r && (well_formed r && classed c r)) (λ r. p (renewed c r)) (records t) (λ r h.
      let rest = and_right (is_record r) (well_formed r && classed c r) h in
      says r (eqb-true (length r) record_size (and_left (is_record r) (well_formed r && classed c r) h)) (and_left (well_formed r) (classed c r) rest) (and_right (well_formed r) (classed c r) rest)) tests

  -- afterwards the sets are what the catalogue gives
  pub renewal_current : all_current c (renew_table t c) ≡ true
  renewal_current = each-renewed (current c) (λ r long fit has. renewed-current c r long)

  pub renewal_classed : all_classed c (renew_table t c) ≡ true
  renewal_classed = each-renewed (classed c) (λ r long fit has. renewed-classed c r long has)

  -- and the table is well-formed
  pub renewal_fits : table_fits (renew_table t c) ≡ true
  renewal_fits =
      fits_again (renew_table t c) t (ap length (accepted_renewal t c fits).1 ∙ length_over (renewed c) (renewed-keeps c) t whole)
      (each-renewed well_formed (λ r long fit has. renewed-fits c r long fit (fits_catalogue t c fits) has)) (fits_table t c fits)

-- a well-formed table whose sets are current is as it was after a renewal
same-records : (c : List ℕ) (rs : List (List ℕ)) → all_of (λ r. is_record r && (well_formed r && current c r)) rs ≡ true → map (renewed c) rs ≡ rs
same-records c [] h = refl
same-records c (r ∷ rs) h =
    let p = is_record r && (well_formed r && current c r) in
    let one = and_left p (all_of (λ x. is_record x && (well_formed x && current c x)) rs) h in
    let rest = and_right (is_record r) (well_formed r && current c r) one in
    ap₂ (λ (x : List ℕ) (xs : List (List ℕ)). x ∷ xs)
    (current_stays c r (eqb-true (length r) record_size (and_left (is_record r) (well_formed r && current c r) one)) (and_left (well_formed r) (current c r) rest) (and_right (well_formed r) (current c r) rest))
    (same-records c rs (and_right p (all_of (λ x. is_record x && (well_formed x && current c x)) rs) h))

renewal_same : (t c : List ℕ) → all_current c t ≡ true → renew_table t c ≡ t
unfolding over
renewal_same t c h = by_fits (renew_fits t c) refl
  where
    by_fits : (b : Bool) → renew_fits t c ≡ b → renew_table t c ≡ t
    by_fits true fits =
        let tests = all_both is_record (λ r. well_formed r && current c r) (records t) (records-sized t) (all_both well_formed (current c) (records t) (table_records t (fits_table t c fits)) h) in
        (accepted_renewal t c fits).1 ∙ ap joined (same-records c (records t) tests) ∙ joined-records t (whole t c fits)
    by_fits false refused = refused_renewal t c refused

-- A report's record that a take stores.
module _ (c t lives : List ℕ) (last : ℕ) (a : Arrival) (lto : ℤ) (full : WhenFull) (sized : length a.report.items.places ≡ limit) (fine : Accepted t c lives last a lto full) (ordinary : kind_for c a.report ≡ Ordinary) where
  checked : Checked t c lives last a lto
  checked = ok t c lives last a lto full fine

  stored-classed : classed c (record_for c lives a lto) ≡ true
  stored-classed =
      made_classed c (kept_of c lives a lto) (set_for c a.report) sized (can_make_lem t c lives last a lto checked ordinary) (set_small c a.report) (ends t c lives last a lto checked).1
      ∙ ap classed-kind ordinary

  stored-current : current c (record_for c lives a lto) ≡ true
  stored-current = made_current c (kept_of c lives a lto) sized (can_make_lem t c lives last a lto checked ordinary) (ends t c lives last a lto checked).1

-- A current record matches by its set if it does by its events.
module _ (c r : List ℕ) where
  pub current-set : current c r ≡ true → is_free r ≡ false → set_in r ≡ set_of (classes_in c r)
  unfolding current
  current-set h used = eqb-true (set_in r) (set_of (classes_in c r)) (sym (ap (λ (b : Bool). b || eqb (set_in r) (set_of (classes_in c r))) used) ∙ h)

  current-matches : (s : Service) (x : Report) → current c r ≡ true → matching (key_of c s x) r ≡ matching_by_events c s x r
  unfolding matching matching_by_events
  current-matches s x h = by_mark (is_free r) refl
    where
      rest : Bool → Bool
      rest shared = same_service (service_in r) s && (same_location (location_in r) (location_of s x) && (eqb (direction_in r) x.head.direction && shared))

      by_mark : (b : Bool) → is_free r ≡ b → not (is_free r) && rest (meet (set_of (classes_of c x)) (set_in r)) ≡ not (is_free r) && rest (share (classes_of c x) (classes_in c r))
      by_mark true free = ap (λ (b : Bool). not b && rest (meet (set_of (classes_of c x)) (set_in r))) free ∙ sym (ap (λ (b : Bool). not b && rest (share (classes_of c x) (classes_in c r))) free)
      by_mark false used = ap (λ (b : Bool). not (is_free r) && rest b) (ap (meet (set_of (classes_of c x))) (current-set h used) ∙ sets_share (classes_of c x) (classes_in c r))

-- Every table that the calls make with one catalogue.
module _ (c : List ℕ) where
  -- has current sets, and no record for which a renewal is refused
  pub always : (t : List ℕ) → Made c t → (all_classed c t ≡ true) × (all_current c t ≡ true)
  always t (starts u free) = (
    all-within is_free (classed c) (records t) (free_classed c) free,
    all-within is_free (current c) (records t) (free_current c) free,
  )
  always t (brings u fits) = (renewal_classed u c fits, renewal_current u c fits)
  always t (takes u lives last a lto full sized made) =
      let was = always u made in (
        each_keeps u c lives last a lto full (classed c) (free_classed c free_record refl) (stored-classed c u lives last a lto full sized) was.0,
        each_keeps u c lives last a lto full (current c) (free_current c free_record refl) (stored-current c u lives last a lto full sized) was.1,
      )
  always t (expires u last minute made) =
      let was = always u made in
      (each-keeps-expiry u last minute (classed c) (free_classed c free_record refl) was.0, each-keeps-expiry u last minute (current c) (free_current c free_record refl) was.1)
  always t (renews u made) =
      let was = always u made in
      subst (λ (x : List ℕ). (all_classed c x ≡ true) × (all_current c x ≡ true)) (sym (renewal_same u c was.1)) was

  module _ (t : List ℕ) (made : Made c t) where
    -- a used record's set is what its events and the catalogue give
    pub set_is : (i : ℕ) → is_free (record_no t i) ≡ false → set_in (record_no t i) ≡ set_of (classes_in c (record_no t i))
    set_is i used = current-set c (record_no t i) (each_one (current c) (records t) i (always t made).1 (free_current c free_record refl)) used

    -- renewing with the same catalogue changes nothing, and a well-formed table is not refused
    pub changes_nothing : renew_table t c ≡ t
    changes_nothing = renewal_same t c (always t made).1

    pub not-refused : table_fits t ≡ true → catalogue_fits c ≡ true → renew_answer t c ≡ Ok (used_in t)
    unfolding renew_fits
    not-refused table catalogue = (accepted_renewal t c (λ i. table i && (catalogue i && (always t made).0 i))).0

    -- matching by the sets is R-4's, by the events
    pub by_events : (s : Service) (x : Report) (i : ℕ) → matching (key_of c s x) (record_no t i) ≡ matching_by_events c s x (record_no t i)
    by_events s x i = current-matches c (record_no t i) s x (each_one (current c) (records t) i (always t made).1 (free_current c free_record refl))
