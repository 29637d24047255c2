-- A recording listed in pieces, by calls of `list` one after the other.
use Rattle.std.specs.Prelude.{◌≡◌, Bool, true, false, List, [], ◌++◌, ℕ, take, drop}
use Rattle.session.specs.declared.Session.{Session}
use Rattle.recording.specs.declared.Progress.{Progress}
use Rattle.recording.specs.Listing.{Listed}

-- from a session, an input and the text that the calls write: each call has some bytes at hand, and others may come later unless these are
-- the last; it writes its text, and the bytes that it left and those that come are listed by the next call, unless it has ended
pub data InPieces : Session → List ℕ → List ℕ → Type 0 where
  ending : (s : Session) (hand later out out' : List ℕ) (last : Bool) (p : Progress) → Listed s hand last out p out' → (last ≡ true → later ≡ []) → p.ended ≡ true → InPieces s (hand ++ later) (take p.written out')
  going : (s : Session) (hand later out out' text : List ℕ) (last : Bool) (p : Progress) → Listed s hand last out p out' → (last ≡ true → later ≡ []) → p.ended ≡ false → InPieces p.session (drop p.taken hand ++ later) text → InPieces s (hand ++ later) (take p.written out' ++ text)
