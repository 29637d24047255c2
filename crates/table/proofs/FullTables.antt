-- Computed cases of full tables (document 02, R-6). A report of service 1/1/1 at location 5 arrives at minute 30, and every life is 60
-- minutes, so its record would end at minute 90.
use Prim.Native.Nat.{ℕ}
use mathlib.Core.Path.{◌≡◌, refl}
use mathlib.Core.List.{List, [], ◌∷◌, ◌++◌}
use lib.IntN.{pos}
use lib.ListN.{replicate}
use Rattle.report.specs.Report.{single_report}
use Rattle.record.specs.Layout.{free_record, four_bytes, eight_bytes}
use Rattle.checks.specs.declared.Arrival.{Arrival}
use Rattle.table.specs.declared.Step.{Step}
use Rattle.table.specs.declared.WhenFull.{WhenFull}
use Rattle.table.specs.declared.WhenFull.TheVariants.{Drop, Keep}
use Rattle.table.specs.declared.Answer.TheVariants.{Freed, Stored, Dropped}
use Rattle.std.specs.Prelude.{Ok, Err}
use Rattle.refusal.specs.declared.Refusal.TheVariants.{UnknownEvent, NoRoom}
use Rattle.table.specs.Steps.{step}
use Rattle.table.specs.Take.{take_step, take_table}
use Rattle.table.proofs.Examples.{computing, until, lives}

-- events of class 1: ordinary and cancelling; then a null and an unknown one
abbrev catalogue : List ℕ
catalogue = 0x41 ∷ 0x81 ∷ 0xC0 ∷ replicate 2045 0

abbrev pub ordinary : ℕ
ordinary = 0

abbrev pub cancelling : ℕ
cancelling = 1

abbrev pub null : ℕ
null = 2

abbrev pub unknown : ℕ
unknown = 3

abbrev arriving : ℕ → Arrival
arriving event = record { report = single_report 0 0 (record { direction = 0; extent = 0; event = event; location = 5 }); service = record { country = 1; ltn = 1; sid = 1 }; minute = record { 0 = 30 } }

-- the record of the ordinary one, until a minute
abbrev jam : ℕ → List ℕ
jam minute = (1 ∷ 1 ∷ 1 ∷ 1 ∷ 5 ∷ replicate 7 0) ++ (four_bytes minute ++ (replicate 15 0 ++ ((1 ∷ 1 ∷ 1 ∷ []) ++ eight_bytes 2)))

-- a take after minute 7: what is answered, and the table afterwards
abbrev pub Taking : WhenFull → ℕ → List ℕ → Step → List ℕ → Type 0
Taking full event t answered after = (take_step t catalogue lives 7 (arriving event) (pos 0) full ≡ answered) × (take_table t catalogue lives 7 (arriving event) (pos 0) full ≡ after)

pub full_tables :
    -- a tie drops the lowest-numbered, and else the one that ends soonest, though the new one ends sooner
    Taking Drop ordinary (until 100 ++ until 100) (step 30 (Ok (Dropped 0))) (jam 90 ++ until 100)
    × Taking Drop ordinary (until 120 ++ until 90) (step 30 (Ok (Dropped 1))) (until 120 ++ jam 90)
    × Taking Drop ordinary (until 120 ++ (until 110 ++ until 110)) (step 30 (Ok (Dropped 1))) (until 120 ++ (jam 90 ++ until 110))
    × Taking Drop ordinary (until 4294967295) (step 30 (Ok (Dropped 0))) (jam 90)
    -- all are kept
    × Taking Keep ordinary (until 100 ++ until 100) (step 7 (Err NoRoom)) (until 100 ++ until 100)
    × Taking Keep unknown (until 100 ++ until 100) (step 7 (Err UnknownEvent)) (until 100 ++ until 100)
    × Taking Drop unknown (until 100 ++ until 100) (step 7 (Err UnknownEvent)) (until 100 ++ until 100)
    -- one matches, has expired, or was free: none is dropped
    × Taking Drop ordinary (until 100 ++ jam 120) (step 30 (Ok (Stored 0 1 1))) (until 100 ++ jam 90)
    × Taking Drop ordinary (until 100 ++ until 30) (step 30 (Ok (Stored 1 0 1))) (until 100 ++ jam 90)
    × Taking Drop ordinary (until 100 ++ free_record) (step 30 (Ok (Stored 0 0 1))) (until 100 ++ jam 90)
    -- a cancelling and a null event drop none
    × Taking Drop cancelling (until 100 ++ until 120) (step 30 (Ok (Freed 0 0))) (until 100 ++ until 120)
    × Taking Drop null (until 100 ++ until 120) (step 30 (Ok (Freed 0 0))) (until 100 ++ until 120)
unfolding computing
full_tables = ((refl, refl), (refl, refl), (refl, refl), (refl, refl), (refl, refl), (refl, refl), (refl, refl), (refl, refl), (refl, refl), (refl, refl), (refl, refl), (refl, refl))
