-- The whole listing (document 01, "The listing program").
use Rattle.std.specs.Prelude.{ℕ, zero, suc, ◌+◌, ◌≤◌, ◌<◌, ◌≡◌, ◌⊎◌, Bool, true, false, cond, List, [], ◌++◌, length, take, drop, Result, Ok, Err}
use Rattle.refusal.specs.declared.Refusal.{Refusal}
use Rattle.refusal.specs.declared.Refusal.TheVariants.{WrongLength, SmallBuffer}
use Rattle.report.specs.declared.Unreadable.TheVariants.{Refused}
use Rattle.lines.specs.Line.{header, refusal_line}
use Rattle.framing.specs.Frame.{frame_of}
use Rattle.session.specs.Session.{start, next, after_frame, frame_text, frame_room}
use Rattle.session.specs.declared.Session.{Session}
use Rattle.recording.specs.declared.Progress.{Progress}
use Rattle.framing.specs.declared.Frame.{Frame}
use Rattle.framing.specs.declared.Frame.TheVariants.{End, Part, Bad, Whole}

-- the kind and body of a frame of n bytes after its length
abbrev pub frame_in : ℕ → List ℕ → List ℕ
frame_in n input = take n (drop 2 input)

-- by what the input begins with: a whole frame prints its lines and the rest follows; a cut frame and a length that no frame has
-- print refusal 1 and end
unfoldable pub from_frame : (Session → List ℕ → List ℕ) → Session → List ℕ → Frame → List ℕ
from_frame rest s input End = []
from_frame rest s input Part = refusal_line (next s.frames) (Refused WrongLength)
from_frame rest s input Bad = refusal_line (next s.frames) (Refused WrongLength)
from_frame rest s input (Whole n) = frame_text s (frame_in n input) ++ rest (after_frame s (frame_in n input)) (drop (2 + n) input)

-- the lines of an input, by a bound on its frames that no input meets
unfoldable pub lines_by : ℕ → Session → List ℕ → List ℕ
lines_by zero s input = []
lines_by (suc more) s input = from_frame (lines_by more) s input (frame_of input)

-- to be read by its law, `lines_law` in proofs/Lines.antt: lines_from s input ≡ from_frame lines_from s input (frame_of input)
unfoldable pub lines_from : Session → List ℕ → List ℕ
lines_from s input = lines_by (suc (length input)) s input

-- what is printed for a whole input: the header always, and then the lines
unfoldable pub listing : List ℕ → List ℕ
listing input = header ++ lines_from start input

-- whether a frame is whole
unfoldable pub whole : Frame → Bool
whole End = false
whole Part = false
whole Bad = false
whole (Whole n) = true

-- whether bytes that begin so, the last ones or not, end the listing; a cut frame and a length that no frame has are refused
unfoldable pub end_at : Frame → Bool → Result Bool Refusal
end_at End last = Ok last
end_at Part last = cond last (Err WrongLength) (Ok false)
end_at Bad last = Err WrongLength
end_at (Whole n) last = Ok false

-- what that prints with the number of the frame, and whether it ends the listing: a refusal does
abbrev pub end_text : ℕ → Result Bool Refusal → List ℕ
end_text frame (Ok ended) = []
end_text frame (Err refusal) = refusal_line frame (Refused refusal)

abbrev pub ends : Result Bool Refusal → Bool
ends (Ok ended) = ended
ends (Err refusal) = true

-- the lines that are left after a call
abbrev pub lines_left : Bool → Session → List ℕ → List ℕ
lines_left ended s input = cond ended [] (lines_from s input)

-- a call got so far with the bytes at hand, the last ones of the input or not. What it wrote and what is left to list make up the
-- listing, whatever bytes may follow. It stops only for want of room or of bytes
pub record Listed (s : Session) (input : List ℕ) (last : Bool) (out : List ℕ) (p : Progress) (out' : List ℕ) : Type 0 where
  pub within : (p.taken ≤ length input) × (p.written ≤ length out')
  pub others : drop p.written out' ≡ drop p.written out
  pub text : (rest : List ℕ) → (last ≡ true → rest ≡ []) → lines_from s (input ++ rest) ≡ take p.written out' ++ lines_left p.ended p.session (drop p.taken input ++ rest)
  pub far : p.ended ≡ false → (length out < p.written + frame_room) ⊎ ((last ≡ false) × (whole (frame_of (drop p.taken input)) ≡ false))

-- what a call answers: a buffer that the text of a frame may not fit into is refused, and stays as it is; else how far it got
unfoldable pub Answered : Session → List ℕ → Bool → List ℕ → Result Progress Refusal → List ℕ → Type 0
Answered s input last out (Ok p) out' = (frame_room ≤ length out) × Listed s input last out p out'
Answered s input last out (Err refusal) out' = (length out < frame_room) × (refusal ≡ SmallBuffer) × (out' ≡ out)
