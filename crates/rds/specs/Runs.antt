-- The valid words of a whole reception, in the paper's own terms: one for each run of two or more equal words among the 8A
-- groups. That the calls give exactly these is `repeat_rule` in proofs/Runs.antt.
use Rattle.std.specs.Prelude.{ℕ, suc, cond, List, [], ◌∷◌, leb, eqb, Result, Ok, Err, Option, Some, None}
use Rattle.refusal.specs.declared.Refusal.{Refusal}
use Rattle.rds.specs.declared.Group.{Group}
use Rattle.rds.specs.Read.{read_group}

-- a run of equal words: the word, and how many they are
pub data Equal : Type 0 where
  equal : ℕ → ℕ → Equal

-- a word before some runs joins the first of them, or is a run of its own
unfoldable pub before : ℕ → List Equal → List Equal
before w [] = equal w 1 ∷ []
before w (equal v n ∷ rs) = cond (eqb w v) (equal v (suc n) ∷ rs) (equal w 1 ∷ equal v n ∷ rs)

unfoldable pub runs : List ℕ → List Equal
runs [] = []
runs (w ∷ ws) = before w (runs ws)

-- the words of the runs of two or more
unfoldable pub counted : List Equal → List ℕ
counted [] = []
counted (equal w n ∷ rs) = cond (leb 2 n) (w ∷ counted rs) (counted rs)

-- the words of the 8A groups among those received
abbrev pub word_then : Result Group Refusal → List ℕ → List ℕ
word_then (Ok g) ws = g.word ∷ ws
word_then (Err refusal) ws = ws

unfoldable pub words8_a : List (List ℕ) → List ℕ
words8_a [] = []
words8_a (s ∷ groups) = word_then (read_group s) (words8_a groups)

-- the valid words among the answers
abbrev pub valid_then : Result (Option ℕ) Refusal → List ℕ → List ℕ
valid_then (Ok None) ws = ws
valid_then (Ok (Some w)) ws = w ∷ ws
valid_then (Err refusal) ws = ws

unfoldable pub valid_words : List (Result (Option ℕ) Refusal) → List ℕ
valid_words [] = []
valid_words (a ∷ as') = valid_then a (valid_words as')
