-- No items take no bits.
use mathlib.Core.Path.{ap}
use Rattle.content.specs.Packing.{packing}
use Rattle.content.specs.Answers.{packed}
use Rattle.content.specs.declared.content.Content.{Content}
use Rattle.content.specs.declared.pack.Packed.{Packed}
use Rattle.content.proofs.pack.Packed.new.Goals as goal

pub returns : goal.returns
unfolding packed packing
returns c = ap (λ (b : Content). let p : Packed = record { bits = 0; content = b } in p) c.new.ensures
