-- What an assembler keeps between two calls (document 01, "The assembler"; ISO 14819-1, clause 9.4).
use Rattle.std.specs.Prelude.{ℕ, List}
use Rattle.word.specs.declared.Head.{Head}

-- nothing, or an open message: its continuity index and head, the GSI of the last later group taken (0 while there is none),
-- and the contents of the later groups taken, in order
pub data State : Type 0 where
  empty : State
  started : ℕ → Head → ℕ → List ℕ → State
