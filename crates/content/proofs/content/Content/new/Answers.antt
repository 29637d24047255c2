-- Two numbers of 64 zero bits.
use mathlib.Core.Path.{sym, ap, ap₂, ◌∙◌}
use mathlib.Core.List.{◌++◌}
use lib.Dec.{lit<}
use Rattle.content.specs.Halves.{content_of, starting_with}
use Rattle.content.proofs.Zeros.{bits-zero}
use Rattle.content.proofs.Halves.{content_of_halves}
use Rattle.content.proofs.content.Content.new.Goals as goal

pub returns : goal.returns
unfolding starting_with
returns c = sym (content_of_halves 0 0 (lit< tt) (lit< tt)) ∙ ap content_of (ap₂ ◌++◌ (bits-zero 64) (bits-zero 64))
