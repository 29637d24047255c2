-- How the code keeps what the assembler's definitions call its state (specs/State.antt of `transmission`).
use Rattle.std.specs.Prelude.{ℕ, List, [], ◌∷◌, length, take, get_or}
use Rattle.word.specs.declared.Head.{Head}
use Rattle.transmission.specs.State.{State, empty, started}
use Rattle.assembler.specs.declared.Partial.{Partial}
use Rattle.assembler.specs.declared.Assembler.{Assembler}
use Rattle.assembler.specs.declared.Assembler.TheVariants.{Empty, Started}

-- the contents of the later groups taken, in order
unfoldable pub contents_of : Partial → List ℕ
contents_of p = take p.count (p.first ∷ p.second ∷ p.third ∷ [])

-- the state that it keeps
unfoldable pub state_of : Assembler → State
state_of Empty = empty
state_of (Started p) = started p.ci p.head p.gsi (contents_of p)

-- an open message as it is kept: unused contents are zero
unfoldable pub partial_of : ℕ → Head → ℕ → List ℕ → Partial
partial_of ci head gsi contents = record {
  ci = ci;
  head = head;
  gsi = gsi;
  count = length contents;
  first = get_or contents 0 0;
  second = get_or contents 1 0;
  third = get_or contents 2 0;
}

-- a state as it is kept
unfoldable pub assembler_of : State → Assembler
assembler_of empty = Empty
assembler_of (started ci head gsi contents) = Started (partial_of ci head gsi contents)
