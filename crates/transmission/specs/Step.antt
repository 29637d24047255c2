-- One call of the assembler (document 01, "The assembler"; ISO 14819-1, clauses 7.3 and 9.4), however messages are read.
use Rattle.std.specs.Prelude.{ℕ, suc, Bool, cond, ◌&&◌, List, [], ◌∷◌, ◌++◌, eqb, Result, Ok, Err}
use Rattle.refusal.specs.declared.Refusal.TheVariants.{OutOfTurn, Continuity7, Unfit}
use Rattle.word.specs.declared.Head.{Head}
use Rattle.word.specs.declared.Word.{Word}
use Rattle.word.specs.declared.Word.TheVariants.{Single, First, Later, Tuning, Administration, Index7, Beyond}
use Rattle.word.specs.Kind.{kind_of}
use Rattle.transmission.specs.Reading.{Rules}
use Rattle.transmission.specs.State.{State, empty, started}

pub data Answer (R : Type 0) : Type 0 where
  nothing : Answer R
  report : R → Answer R
  tuning : ℕ → Answer R
  administration : ℕ → Answer R

pub record Step (R E : Type 0) : Type 0 where
  pub next : State
  pub answer : Result (Answer R) E

-- the state afterwards, with an answer
abbrev pub leaving : {R E : Type 0} → State → Result (Answer R) E → Step R E
leaving s a = record { next = s; answer = a }

abbrev pub emptying : {R E : Type 0} → Result (Answer R) E → Step R E
emptying a = leaving empty a

-- a later group's turn, by what its message has so far: the mark on the first one and no other, GSI falling by one
unfoldable pub in_turn : ℕ → List ℕ → ℕ → ℕ → Bool
in_turn last [] second gsi = eqb second 1
in_turn last (c ∷ contents) second gsi = eqb second 0 && eqb last (suc gsi)

-- the whole message is read
unfoldable pub completed : {R E : Type 0} → Result R E → Step R E
completed (Ok r) = emptying (Ok (report r))
completed (Err e) = emptying (Err e)

module _ {R E : Type 0} (rules : Rules R E) where
  -- out of turn
  abbrev pub strayed : Step R E
  strayed = emptying (Err (rules.plain OutOfTurn))

  -- an open message with one later group more, its last: GSI 0 completes it
  unfoldable pub taken : ℕ → Head → ℕ → List ℕ → Step R E
  taken ci head gsi contents = cond (eqb gsi 0) (completed (rules.multi head contents)) (leaving (started ci head gsi contents) (Ok nothing))

  -- a later group
  unfoldable pub later : State → ℕ → ℕ → ℕ → ℕ → Step R E
  later empty ci second gsi content = strayed
  later (started index head last contents) ci second gsi content =
      cond (eqb index ci && in_turn last contents second gsi) (taken ci head gsi (contents ++ content ∷ [])) strayed

  -- a word, by its kind
  unfoldable pub step_by : State → Word → Step R E
  step_by s (Single duration diversion head) = emptying (Ok (report (rules.single duration diversion head)))
  step_by s (First ci head) = leaving (started ci head 0 []) (Ok nothing)
  step_by s (Later ci second gsi content) = later s ci second gsi content
  step_by s (Tuning n) = leaving s (Ok (tuning n))
  step_by s (Administration n) = leaving s (Ok (administration n))
  step_by s (Index7 n) = leaving s (Err (rules.plain Continuity7))
  step_by s (Beyond n) = leaving s (Err (rules.plain Unfit))

  unfoldable pub step : State → ℕ → Step R E
  step s n = step_by s (kind_of n)
