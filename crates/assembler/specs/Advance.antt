-- A call without its report: the next state, and whether the word is taken.
use Rattle.std.specs.Prelude.{is_ok}
use Rattle.assembler.specs.declared.Step.{Step}
use Rattle.assembler.specs.declared.Advance.{Advance}

-- what a step says of both: a word is taken where its answer is no refusal
abbrev pub advance_of : Step → Advance
advance_of s = record { next = s.next; taken = is_ok s.answer }
