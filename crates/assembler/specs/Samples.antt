-- The state between the two groups of document 01's worked message.
use Rattle.word.specs.Samples.{head401}
use Rattle.assembler.specs.declared.Assembler.{Assembler}
use Rattle.assembler.specs.declared.Assembler.TheVariants.{Started}

-- its first group, of continuity index 2, is there
abbrev pub opened401 : Assembler
opened401 = Started (record { ci = 2; head = head401; gsi = 0; count = 0; first = 0; second = 0; third = 0 })
