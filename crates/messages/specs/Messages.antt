-- User words that are whole messages (document 01, "DRM"): on them a fresh assembler refuses nothing, drops no open message and ends
-- with none open. How content is read is left open. That `whole_from` says just this of its calls is `whole_means` in proofs/Fed.antt.
use Rattle.std.specs.Prelude.{ℕ, Bool, true, false, ◌&&◌, ◌||◌, not, List, [], ◌∷◌, is_ok}
use Rattle.word.specs.declared.Word.{Word}
use Rattle.word.specs.declared.Word.TheVariants.{Single, First, Later, Tuning, Administration, Index7, Beyond}
use Rattle.word.specs.Kind.{kind_of}
use Rattle.assembler.specs.declared.Assembler.{Assembler}
use Rattle.assembler.specs.declared.Assembler.TheVariants.{Empty, Started}
use Rattle.assembler.specs.Reading.{Reads}
use Rattle.assembler.specs.Step.{step_of}

-- no message is open
unfoldable pub is_empty : Assembler → Bool
is_empty Empty = true
is_empty (Started p) = false

-- a single-group message, or the first group of another: a message that is open is dropped. That no other word that is taken drops one
-- is `continues` in proofs/Continuing.antt
unfoldable pub begins : Word → Bool
begins (Single duration diversion head) = true
begins (First ci head) = true
begins (Later ci second gsi content) = false
begins (Tuning n) = false
begins (Administration n) = false
begins (Index7 n) = false
begins (Beyond n) = false

module _ (read : Reads) where
  -- a word that drops no open message and is not refused
  unfoldable pub passes : Assembler → ℕ → Bool
  passes a n = (is_empty a || not (begins (kind_of n))) && is_ok (step_of read a n).answer

  -- words from a state on
  unfoldable pub whole_from : Assembler → List ℕ → Bool
  whole_from a [] = is_empty a
  whole_from a (n ∷ ns) = passes a n && whole_from (step_of read a n).next ns

  -- to a fresh assembler
  abbrev pub whole : List ℕ → Bool
  whole ws = whole_from Empty ws
