-- Demand 3 of the calls, however content is read, so of the promise of `Assembler::step`.
use mathlib.Core.Path.{refl, ◌∙◌}
use Rattle.transmission.proofs.Reached.{demand3_of-calls}
use Rattle.assembler.specs.declared.Assembler.TheVariants.{Empty}
use Rattle.assembler.specs.Reading.{Reads, rules}
use Rattle.assembler.specs.State.{state_of}
use Rattle.assembler.specs.Fits.{fits}
use Rattle.assembler.specs.Demand3.{Demand3}
use Rattle.assembler.proofs.CallSteps.{same-reports}

pub demand3 : (read : Reads) → Demand3 read
unfolding fits state_of
demand3 read sent words formed apart bound e = same-reports read words Empty refl ∙ demand3_of-calls (rules read) sent words formed apart bound e
