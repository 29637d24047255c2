-- The form of a frame (document 01, "The listing program").
use Rattle.std.specs.Prelude.{ℕ, ◌+◌, ◌*◌, Bool, cond, ◌&&◌, List, [], ◌∷◌, length, get_or, leb}
use Rattle.framing.specs.declared.Frame.{Frame}
use Rattle.framing.specs.declared.Frame.TheVariants.{End, Part, Bad, Whole}

-- 16 bits, the low byte first
abbrev pub little : ℕ → ℕ → ℕ
little low high = low + high * 256

-- a frame has 2 to 130 bytes after its length
abbrev pub length_fits : ℕ → Bool
length_fits n = leb 2 n && leb n 130

-- by the length, and how many bytes there are after it
unfoldable pub framed : ℕ → ℕ → Frame
framed n there = cond (length_fits n) (cond (leb n there) (Whole n) Part) Bad

-- what some bytes begin with: a length, which counts what follows it, and as many bytes
unfoldable pub frame_of : List ℕ → Frame
frame_of [] = End
frame_of (low ∷ []) = Part
frame_of (low ∷ high ∷ rest) = framed (little low high) (length rest)

-- the kind of a frame: its first 16 bits after the length
unfoldable pub kind_of : List ℕ → ℕ
kind_of r = little (get_or r 0 0) (get_or r 1 0)
