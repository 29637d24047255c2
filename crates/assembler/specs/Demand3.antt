-- Demand 3 of the calls (document 01, "The assembler"): the claim of `transmission` about the reports that the calls of a fresh assembler
-- give back. docs/DEMAND3.md explains it; the proof is `demand3` in proofs/Demand3.antt.
use Rattle.transmission.specs.Demand3 as any
use Rattle.assembler.specs.declared.Assembler.TheVariants.{Empty}
use Rattle.assembler.specs.Reading.{Reads, rules}
use Rattle.assembler.specs.Calls.{calls, reports_of}

abbrev pub Demand3 : Reads → Type 0
Demand3 read = any.Demand3 (rules read) (λ words. reports_of (calls read Empty words))
