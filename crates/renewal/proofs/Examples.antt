-- The worked cases of additional events and of stored sets (document 02, R-4 and R-5), computed: an accident (201, class 5), a lane closure
-- (641, class 9) and its cancelling (2028, class 9), the null event (2047), and events that the catalogue does not know (300, 1000).
use Prim.Native.Nat.{ℕ}
use mathlib.Core.Path.{◌≡◌, refl}
use mathlib.Core.List.{List, [], ◌∷◌, ◌++◌}
use lib.IntN.{pos}
use lib.ListN.{set, replicate}
use Rattle.word.specs.declared.Head.{Head}
use Rattle.content.specs.Widths.{widths, width}
use Rattle.content.specs.Items.{valued, labelled, first, and_then, read_by, items_within, items}
use Rattle.content.specs.Content.{content}
use Rattle.content.specs.Packing.{item_fits}
use Rattle.report.specs.declared.Report.{Report}
use Rattle.report.specs.Report.{single_report, multi_report}
use Rattle.std.specs.Prelude.{Ok, Err}
use Rattle.refusal.specs.declared.Refusal.TheVariants.{CutShort, Malformed}
use Rattle.report.specs.declared.Unreadable.TheVariants.{Broken}
use Rattle.report.specs.Read.{placed, read_items}
use Rattle.record.specs.declared.Service.{Service}
use Rattle.record.specs.Locations.{head_location, real_location}
use Rattle.record.specs.Layout.{free_record, four_bytes, eight_bytes, with_set}
use Rattle.record.specs.Gone.{one_record}
use Rattle.record_report.specs.Made.{record_of}
use Rattle.record_report.specs.Reads.{message_in, message_of, reading_in}
use Rattle.checks.specs.declared.Arrival.{Arrival}
use Rattle.table.specs.declared.Step.{Step}
use Rattle.table.specs.declared.WhenFull.TheVariants.{Keep}
use Rattle.table.specs.declared.Answer.TheVariants.{Freed, Stored}
use Rattle.table.specs.Steps.{step}
use Rattle.table.specs.Expire.{expire_step}
use Rattle.table.specs.Read.{record_at}
use Rattle.table.specs.Take.{take_step, take_table}
use Rattle.table.proofs.Examples.{computing}
use Rattle.renewal.specs.Classes.{classes_in, classed}
use Rattle.renewal.specs.Renewal.{renewed, renew_fits, renew_answer, renew_table}

-- names what the cases compute with
unfoldable renewing : Unit {0}
unfolding computing widths width valued labelled first and_then read_by items_within items content item_fits placed read_items head_location real_location with_set one_record message_in message_of reading_in record_at classes_in classed renewed renew_fits renew_answer renew_table
renewing = tt

abbrev catalogue : List ℕ
catalogue = set (set (set (set (replicate 2048 0) 201 0x45) 641 0x49) 2028 0x89) 2047 0xC0

abbrev service : Service
service = record { country = 13; ltn = 17; sid = 3 }

-- an event at location 500
abbrev head : ℕ → Head
head event = record { direction = 0; extent = 1; event = event; location = 500 }

abbrev single : ℕ → Report
single event = single_report 0 0 (head event)

-- the accident with an additional event
abbrev accident : ℕ → Report
accident event = multi_report (head 201) 0 (record { label = 9; value = event } ∷ [])

-- a report's record with a set, which ends at a minute
abbrev kept : Report → (classes expiry : ℕ) → List ℕ
kept x classes expiry = record_of (record { report = x; service = service; expiry = record { 0 = expiry } }) classes

-- what arrives at a minute
abbrev arrival : Report → ℕ → Arrival
arrival x minute = record { report = x; service = service; minute = record { 0 = minute } }

-- a table takes a report at minute 30; every life is 60 minutes
abbrev taking : List ℕ → Report → Step
taking t x = take_step t catalogue (replicate 16 60) 0 (arrival x 30) (pos 0) Keep

-- a record of class 5 whose content is six separators and a label 10 with no bits left for its value
abbrev unreadable : ℕ → List ℕ
unreadable expiry =
    (1 ∷ 2 ∷ 3 ∷ 17 ∷ 0xF4 ∷ 1 ∷ 201 ∷ 0 ∷ 0 ∷ 1 ∷ 0 ∷ 0 ∷ []) ++ (four_bytes expiry ++ ((0xEE ∷ 0xEE ∷ 0xEE ∷ 0xA0 ∷ replicate 10 0) ++ ((0 ∷ 13 ∷ 13 ∷ 17 ∷ []) ++ eight_bytes 0x20)))

-- each case: a table, what arrives, and what is answered
pub additional_events :
    -- the lane closure is cancelled, or told anew: the accident that has it as an additional event goes
    (taking (kept (accident 641) 0x220 160) (single 2028) ≡ step 30 (Ok (Freed 0 1)))
    × (taking (kept (accident 641) 0x220 160) (single 641) ≡ step 30 (Ok (Stored 0 1 0)))
    -- an accident with a cancelling additional event is ordinary: it frees the records of both its classes, and is stored
    × (taking (kept (single 201) 0x20 160 ++ kept (single 641) 0x200 160) (accident 2028) ≡ step 30 (Ok (Stored 0 2 0)))
    -- a record that has expired and matches has expired
    × (taking (kept (accident 641) 0x220 30) (single 2028) ≡ step 30 (Ok (Freed 1 0)))
    -- content that does not read does not matter to a take, nor a first event that the catalogue does not know: the set is matched
    × (taking (unreadable 160) (single 2028) ≡ step 30 (Ok (Freed 0 0)))
    × (taking (unreadable 160) (single 201) ≡ step 30 (Ok (Stored 0 1 0)))
    × (taking (kept (single 300) 0x20 160) (single 201) ≡ step 30 (Ok (Stored 0 1 0)))
    -- a renewal refuses both
    × (renew_answer (unreadable 160) catalogue ≡ Err Malformed)
    × (renew_answer (kept (single 300) 0x20 160) catalogue ≡ Err Malformed)
    × (record_at (unreadable 160) 0 ≡ Err (Broken CutShort 24))
unfolding renewing
additional_events = (refl, refl, refl, refl, refl, refl, refl, refl, refl, refl)

-- what an all-free table of one record keeps of a report that arrives at minute 100, by a catalogue
abbrev keeps : List ℕ → Report → List ℕ
keeps c x = take_table free_record c (replicate 16 60) 0 (arrival x 100) (pos 0) Keep

-- the record of the accident with the lane closure for a duration of 2, with the bytes of its set
abbrev bytes201 : List ℕ → List ℕ
bytes201 classes =
    (0x01 ∷ 0x02 ∷ 0x03 ∷ 0x11 ∷ 0xF4 ∷ 0x01 ∷ 0xC9 ∷ 0x00 ∷ 0x00 ∷ 0x01 ∷ 0x00 ∷ 0x02 ∷ 0xA0 ∷ 0x00 ∷ 0x00 ∷ 0x00 ∷ 0x95 ∷ 0x02 ∷ 0x08 ∷ replicate 11 0) ++ ((0x00 ∷ 0x0D ∷ 0x0D ∷ 0x11 ∷ []) ++ classes)

-- an expiry, which frees none of them
abbrev expiring : List ℕ → Step
expiring t = expire_step t 0 30

pub stored_sets :
    (keeps catalogue (multi_report (head 201) 0 (record { label = 9; value = 641 } ∷ record { label = 0; value = 2 } ∷ [])) ≡ bytes201 (0x20 ∷ 0x02 ∷ replicate 6 0))
    -- an additional event that is null or unknown has no class
    × (keeps catalogue (accident 2047) ≡ kept (accident 2047) 0x20 160)
    × (keeps catalogue (accident 1000) ≡ kept (accident 1000) 0x20 160)
    -- class 63
    × (keeps (set catalogue 201 0x7F) (single 201) ≡ kept (single 201) 0x8000_0000_0000_0000 160)
    -- the lane closure is in class 10 from now on, or the accident is not known any more: then nothing changes
    × (renew_table (bytes201 (0x20 ∷ 0x02 ∷ replicate 6 0)) (set catalogue 641 0x4A) ≡ bytes201 (0x20 ∷ 0x04 ∷ replicate 6 0))
    × (renew_answer (bytes201 (0x20 ∷ 0x02 ∷ replicate 6 0) ++ free_record) (set catalogue 641 0x4A) ≡ Ok 1)
    × (renew_answer (bytes201 (0x20 ∷ 0x02 ∷ replicate 6 0)) (set catalogue 201 0) ≡ Err Malformed)
    × (renew_table (bytes201 (0x20 ∷ 0x02 ∷ replicate 6 0)) (set catalogue 201 0) ≡ bytes201 (0x20 ∷ 0x02 ∷ replicate 6 0))
    -- a set that is empty, class 0 in it, a reserved byte that is not 0
    × (expiring (bytes201 (replicate 8 0)) ≡ step 0 (Err Malformed))
    × (expiring (bytes201 (0x21 ∷ 0x02 ∷ replicate 6 0)) ≡ step 0 (Err Malformed))
    × (expiring (set (bytes201 (0x20 ∷ 0x02 ∷ replicate 6 0)) 30 9) ≡ step 0 (Err Malformed))
unfolding renewing
stored_sets = (refl, refl, refl, refl, refl, refl, refl, refl, refl, refl, refl)
