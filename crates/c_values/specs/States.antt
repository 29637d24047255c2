-- The assembler's state as C has it (include/alertc.h, "The assembler").
use Rattle.std.specs.Prelude.{Bool, cond, ◌&&◌, eqb}
use Rattle.assembler.specs.declared.Partial.{Partial}
use Rattle.assembler.specs.declared.Assembler.{Assembler}
use Rattle.assembler.specs.declared.Assembler.TheVariants.{Empty, Started}

-- all fields 0, which no open message has
abbrev pub blank : Partial → Bool
blank p =
    eqb p.ci 0
    && ((eqb p.head.direction 0 && (eqb p.head.extent 0 && (eqb p.head.event 0 && eqb p.head.location 0)))
    && (eqb p.gsi 0 && (eqb p.count 0 && (eqb p.first 0 && (eqb p.second 0 && eqb p.third 0)))))

-- a state as C has it: the open message, all 0 where there is none
abbrev pub state_of : Assembler → Partial
state_of Empty = record { ci = 0; head = record { direction = 0; extent = 0; event = 0; location = 0 }; gsi = 0; count = 0; first = 0; second = 0; third = 0 }
state_of (Started p) = p

-- and back
abbrev pub state_from : Partial → Assembler
state_from p = cond (blank p) Empty (Started p)
