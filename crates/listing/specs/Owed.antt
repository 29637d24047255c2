-- What the listing of a recording has written, and what it still owes.
use Rattle.std.specs.Prelude.{ℕ, ◌-◌, ◌≤◌, ◌<◌, ◌≡◌, true, false, cond, List, [], ◌++◌, length, take, drop, Option, Some}
use Rattle.std.specs.Io.KnownBytes.{Consumes, IsAtEnd}
use Rattle.session.specs.declared.Session.{Session}
use Rattle.session.specs.Session.{frame_room}
use Rattle.recording.specs.Listing.{lines_from}
use Rattle.listing.specs.declared.State.{State}

-- the buffers hold the longest frame, and the most text that a frame gives
abbrev pub HaveRoom : List ℕ → List ℕ → Type 0
HaveRoom input out = (132 ≤ length input) × (frame_room ≤ length out)

-- the bytes of the input buffer that are still to be listed
abbrev pub at_hand : State → List ℕ → List ℕ
at_hand s input = take (s.end - s.from) (drop s.from input)

-- the bytes that come after them: what the reader has left, and none once it was at its end
abbrev pub to_come : State → List ℕ → List ℕ
to_come s left = cond s.last [] left

-- the lines that are still to be written
abbrev pub due : State → List ℕ → List ℕ → List ℕ
due s input left = cond s.more (lines_from s.session (at_hand s input ++ to_come s left)) []

-- the reader says what it has left and the writer what it holds: with the lines that are due that makes up all
pub record Owes (s : State) (input : List ℕ) (remaining contents : Option (List ℕ)) (all : List ℕ) : Type 0 where
  pub left : List ℕ
  pub held : List ℕ
  pub gives : remaining ≡ Some left
  pub holds : contents ≡ Some held
  pub owed : held ++ due s input left ≡ all

-- what is written in the end stays the same
abbrev pub KeepsOwed : State → List ℕ → Option (List ℕ) → Option (List ℕ) → State → List ℕ → Option (List ℕ) → Option (List ℕ) → Type 0
KeepsOwed s input remaining contents s' input' remaining' contents' = (all : List ℕ) → Owes s input remaining contents all → Owes s' input' remaining' contents' all

-- a read put more bytes after those that were kept. It is taken for the end of the input exactly where it gave none
pub record Reads (session : Session) (kept : List ℕ) (remaining : Option (List ℕ)) (s : State) (input : List ℕ) (remaining' : Option (List ℕ)) : Type 0 where
  pub more : List ℕ
  pub same : s.session ≡ session
  pub going : s.more ≡ true
  pub hand : at_hand s input ≡ kept ++ more
  pub consumes : Consumes remaining remaining' more
  pub none : s.last ≡ true → more ≡ []
  pub some : s.last ≡ false → more ≡ [] → ⊥
  pub ended : s.last ≡ true → length kept < length input → IsAtEnd remaining'
