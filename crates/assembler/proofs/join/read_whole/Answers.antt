-- The joined bits are those of the contents in order.
use mathlib.Core.Path.{ap, ◌∙◌}
use Rattle.report.specs.Read.{read_bits, read_report}
use Rattle.assembler.proofs.States.{opened, few}
use Rattle.assembler.proofs.join.read_whole.Goals as goal

pub joined-bits-requires : goal.joined-bits-requires
joined-bits-requires c = few _ _ (opened c.args.p c.requires).count

pub returns : goal.returns
unfolding read_report
returns c = c.multi.ensures ∙ ap (read_bits c.args.p.head) c.joined-bits.ensures
