-- Every computed case of content that breaks holds.
use mathlib.Core.Path.{refl}
use Rattle.assembler.proofs.Examples.{computing}
use Rattle.cases.specs.Case.{AllHold}
use Rattle.cases.specs.Broken.{broken_cases}

pub broken : AllHold broken_cases
unfolding computing broken_cases
broken = (refl, (refl, (refl, (refl, (refl, (refl, (refl, tt)))))))
