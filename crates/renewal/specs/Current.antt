-- The records whose sets are what their events and the catalogue give, and the tables that calls with one catalogue make (document 02, R-5).
use Rattle.std.specs.Prelude.{ℕ, ◌≡◌, Bool, true, not, ◌&&◌, ◌||◌, List, ℤ, length, eqb}
use Rattle.content.specs.Stored.{limit}
use Rattle.report.specs.declared.Report.{Report}
use Rattle.record.specs.declared.Service.{Service}
use Rattle.record.specs.Layout.{is_free, service_in, location_in, direction_in, set_in}
use Rattle.record.specs.Locations.{location_of}
use Rattle.record.specs.Classes.{share, set_of}
use Rattle.record.specs.Matching.{same_service, same_location}
use Rattle.lent.specs.Records.{records, all_of}
use Rattle.classes.specs.Classes.{classes_of}
use Rattle.checks.specs.declared.Arrival.{Arrival}
use Rattle.table.specs.declared.WhenFull.{WhenFull}
use Rattle.table.specs.Expire.{expire_table}
use Rattle.table.specs.Take.{take_table}
use Rattle.renewal.specs.Classes.{classes_in}
use Rattle.renewal.specs.Renewal.{renew_fits, renew_table}

-- a used record's set is what its events and the catalogue give
unfoldable pub current : (catalogue r : List ℕ) → Bool
current catalogue r = is_free r || eqb (set_in r) (set_of (classes_in catalogue r))

abbrev pub all_current : (catalogue t : List ℕ) → Bool
all_current catalogue t = all_of (current catalogue) (records t)

-- the tables that the calls make, with one catalogue: from an all-free one, or from any that was renewed with it
pub data Made (catalogue : List ℕ) : List ℕ → Type 0 where
  starts : (t : List ℕ) → all_of is_free (records t) ≡ true → Made catalogue t
  brings : (t : List ℕ) → renew_fits t catalogue ≡ true → Made catalogue (renew_table t catalogue)
  -- a report has 28 places, as every report of the code has
  takes : (t lives : List ℕ) (last : ℕ) (a : Arrival) (lto : ℤ) (full : WhenFull) → length a.report.items.places ≡ limit → Made catalogue t → Made catalogue (take_table t catalogue lives last a lto full)
  expires : (t : List ℕ) (last minute : ℕ) → Made catalogue t → Made catalogue (expire_table t last minute)
  renews : (t : List ℕ) → Made catalogue t → Made catalogue (renew_table t catalogue)

-- matching as R-4 has it: a used record of the same service, location and direction, one of whose events shares a class with the report
unfoldable pub matching_by_events : List ℕ → Service → Report → List ℕ → Bool
matching_by_events catalogue s x r =
    not (is_free r)
    && (same_service (service_in r) s
    && (same_location (location_in r) (location_of s x) && (eqb (direction_in r) x.head.direction && share (classes_of catalogue x) (classes_in catalogue r))))
