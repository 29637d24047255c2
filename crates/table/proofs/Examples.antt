-- The worked cases of document 01, computed.
use Prim.Native.Nat.{ℕ}
use mathlib.Core.Path.{◌≡◌, refl}
use mathlib.Core.List.{List, [], ◌∷◌, ◌++◌}
use lib.IntN.{pos}
use lib.ListN.{replicate}
use Rattle.bits.specs.Lists.{joined}
use Rattle.bits.specs.Bits.{bits, bit, num, val, all_zero}
use Rattle.bits.specs.Fields.{flat, fits, unpack, words}
use Rattle.content.specs.Stored.{filled, listed, well_placed, all_zero_items}
use Rattle.content.specs.Packing.{item_bits, packing, all_fit, zero_item, last_zero, packable, writable}
use Rattle.report.specs.Report.{first_where, single_report, multi_report}
use Rattle.report.specs.Record.{bytes_of, groups_for, groups_of}
use Rattle.location.specs.Flt.{flt_fields, is_flt, foreign}
use Rattle.report.specs.InterRoad.{inter_road, items_at, real_bits, content_of}
use Rattle.report.specs.Fits.{single_fits, agrees, items_fit, content_fits, multi_fits, fits_by, real_fits, report_fits}
use Rattle.clock.specs.Time.{offset_fits, expiry_of}
use Rattle.record.specs.Layout.{free_record, four_bytes, eight_bytes}
use Rattle.record.specs.Locations.{location_of}
use Rattle.record.specs.Classes.{set_of}
use Rattle.record.specs.Matching.{matching}
use Rattle.record.specs.Gone.{expired, freed_if}
use Rattle.record.specs.WellFormed.{widths, within, ranges_fit, marked, complete, rest_fits, well_formed}
use Rattle.record_report.specs.Made.{record_of}
use Rattle.lent.specs.Records.{chunks, records}
use Rattle.lent.specs.Table.{sized, table_fits}
use Rattle.lent.specs.Catalogue.{entry_fits, catalogue_fits}
use Rattle.lent.specs.Lives.{lives_fit}
use Rattle.lent.specs.Lent.{lent_fit}
use Rattle.classes.specs.Events.{additional_events, events_of}
use Rattle.classes.specs.Classes.{event_classes, classes_of}
use Rattle.checks.specs.declared.Arrival.{Arrival}
use Rattle.checks.specs.Checks.{asked_fit, check_answer}
use Rattle.table.specs.declared.WhenFull.TheVariants.{Drop}
use Rattle.std.specs.Prelude.{Ok, Err}
use Rattle.refusal.specs.declared.Refusal.TheVariants.{ForeignLocation}
use Rattle.table.specs.declared.Answer.TheVariants.{Freed, Stored}
use Rattle.table.specs.Records.{count_if, over, count_where, lowest_free, soonest, stored}
use Rattle.table.specs.Steps.{step, after_matching, matched_in, free_in, place_in, after_storing}
use Rattle.table.specs.Expire.{expire_answer, expire_step, expire_table}
use Rattle.table.specs.Take.{matches, storing_answer, taken_answer, taken_table, take_answer, take_step, take_table}

-- names what the examples compute with
unfoldable pub computing : Unit {0}
unfolding bit bits flat all_zero num widths within ranges_fit marked complete rest_fits well_formed expired freed_if chunks records joined count_if over count_where sized table_fits expire_answer expire_table matching lowest_free entry_fits catalogue_fits lives_fit fits offset_fits filled well_placed all_zero_items zero_item single_fits fits_by report_fits lent_fit is_flt flt_fields unpack val location_of inter_road items_at real_fits asked_fit check_answer matches after_matching matched_in free_in place_in storing_answer taken_answer take_answer listed item_bits packing all_fit last_zero packable writable first_where real_bits content_of agrees items_fit content_fits multi_fits foreign soonest stored after_storing taken_table take_table words record_of bytes_of groups_for groups_of expiry_of set_of additional_events events_of event_classes classes_of
computing = tt

-- a record of class 1 that ends at a minute
abbrev pub until : ℕ → List ℕ
until minute = (1 ∷ 1 ∷ replicate 10 0) ++ (four_bytes minute ++ (replicate 18 0 ++ eight_bytes 2))

pub stays_at_99 : (expire_step (until 100) 0 99 ≡ step 99 (Ok (Freed 0 0))) × (expire_table (until 100) 0 99 ≡ until 100)
unfolding computing
stays_at_99 = (refl, refl)

pub goes_at_100 : (expire_step (until 100) 0 100 ≡ step 100 (Ok (Freed 1 0))) × (expire_table (until 100) 0 100 ≡ free_record)
unfolding computing
goes_at_100 = (refl, refl)

-- a single-group report at a location, at minute 0
abbrev pub arrival : ℕ → Arrival
arrival location = record { report = single_report 0 0 (record { direction = 0; extent = 0; event = 0; location = location }); service = record { country = 1; ltn = 1; sid = 1 }; minute = record { 0 = 0 } }

-- every event ordinary, of class 1; every life 60 minutes
abbrev pub catalogue : List ℕ
catalogue = replicate 2048 65

abbrev pub lives : List ℕ
lives = replicate 16 60

pub own_location : take_step free_record catalogue lives 0 (arrival 0xFBFF) (pos 0) Drop ≡ step 0 (Ok (Stored 0 0 0))
unfolding computing
own_location = refl

pub foreign-location : take_step free_record catalogue lives 0 (arrival 0xFC00) (pos 0) Drop ≡ step 0 (Err ForeignLocation)
unfolding computing
foreign-location = refl

-- an INTER-ROAD report without items at a real location in table 1 of country 13
abbrev pub inter_road_arrival : ℕ → Arrival
inter_road_arrival real = record { report = multi_report (record { direction = 0; extent = 0; event = 0; location = 0xFF41 }) real []; service = record { country = 1; ltn = 1; sid = 1 }; minute = record { 0 = 0 } }

pub real_location : take_step free_record catalogue lives 0 (inter_road_arrival 0xFBFF) (pos 0) Drop ≡ step 0 (Ok (Stored 0 0 0))
unfolding computing
real_location = refl

pub no_real_location : take_step free_record catalogue lives 0 (inter_road_arrival 0xFC00) (pos 0) Drop ≡ step 0 (Err ForeignLocation)
unfolding computing
no_real_location = refl
