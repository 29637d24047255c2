-- The FIGs 5/1 among some FIGs, read in order (document 02, R-2).
use Rattle.std.specs.Prelude.{ℕ, ◌+◌, ◌-◌, Bool, ◌&&◌, cond, List, [], ◌∷◌, ◌++◌, map, length, drop, leb, eqb}
use Rattle.std.specs.Prelude.{Result, Ok, Err}
use Rattle.refusal.specs.declared.Refusal.{Refusal}
use Rattle.fig.specs.declared.Fig.{Fig}
use Rattle.fig.specs.declared.Reading.{Reading}
use Rattle.fig.specs.Format.{header_length, type_in, extension_in}
use Rattle.fig.specs.Read.{fields, read_fig, words_in}

-- a FIG 5/1: type 5, and extension 1 in its second byte, which a count of 0 leaves out
unfoldable pub is_tmc : List ℕ → Bool
is_tmc f = leb header_length (length f) && (eqb (type_in (fields f)) 5 && eqb (extension_in (fields f)) 1)

-- a word, and D1 and TCId of the FIG that carries it
pub record Carried : Type 0 where
  pub word : ℕ
  pub fig : Fig

-- words of a FIG
abbrev pub carried_by : Fig → List ℕ → List Carried
carried_by fig ws = map (λ w. record { word = w; fig = fig }) ws

-- what the FIG reader answers for a FIG: its words, or its refusal
unfoldable pub carried : Result Reading Refusal → List ℕ → Result (List Carried) Refusal
carried (Ok r) f = Ok (carried_by r.fig (words_in (Ok r) (drop header_length f)))
carried (Err refusal) f = Err refusal

-- one FIG, with room for so many words: a FIG 5/1 is read, any other gives nothing
unfoldable pub read_one : ℕ → List ℕ → Result (List Carried) Refusal
read_one room f = cond (is_tmc f) (carried (read_fig f room) f) (Ok [])

-- how a walk ended: all FIGs were passed, or one was refused for this reason, and begins at this byte
pub data End : Type 0 where
  all : End
  refused_at : Refusal → ℕ → End

-- the words of the FIGs that were read, in order, and how it ended
pub record Walk : Type 0 where
  pub found : List Carried
  pub end : End

-- the FIG at byte at, and then the walk over the others, after so many words; a refused FIG ends it
unfoldable pub and_then : ℕ → Result (List Carried) Refusal → (ℕ → Walk) → Walk
and_then at (Ok cs) next = record { found = cs ++ (next (length cs)).found; end = (next (length cs)).end }
and_then at (Err refusal) next = record { found = []; end = refused_at refusal at }

-- FIGs, the first at byte at, with room for so many words
unfoldable pub walk_from : ℕ → ℕ → List (List ℕ) → Walk
walk_from at room [] = record { found = []; end = all }
walk_from at room (f ∷ fs) = and_then at (read_one room f) (λ n. walk_from (at + length f) (room - n) fs)
