-- Which stream failed.
use Rattle.listing.specs.declared.Failure.{Failure}
use Rattle.listing.specs.declared.Failure.TheVariants.{Input, Output}

abbrev pub IsInput : Failure → Type 0
IsInput (Input e) = Unit {0}
IsInput (Output e) = ⊥

abbrev pub IsOutput : Failure → Type 0
IsOutput (Input e) = ⊥
IsOutput (Output e) = Unit {0}
