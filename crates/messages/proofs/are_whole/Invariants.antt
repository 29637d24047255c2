use mathlib.Core.Path.{◌≡◌}
use lib.ListN.{drop}
use Rattle.report.specs.Read.{read_report}
use Rattle.messages.specs.Messages.{whole, whole_from}
use Rattle.messages.proofs.are_whole.Given as goal

abbrev pub invariant-loop-word : goal.invariant-loop-word
invariant-loop-word l = whole read_report l.words ≡ whole_from read_report l.state (drop l.word-index l.words)
