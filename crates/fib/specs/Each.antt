-- A block by what the FIG reader says of each of its FIGs 5/1 by itself (document 02, R-2).
use Rattle.std.specs.Prelude.{ℕ, ◌-◌, ◌≤◌, ◌≡◌, true, cond, List, [], ◌∷◌, ◌++◌, map, length, drop, replicate, Ok, Err}
use Rattle.refusal.specs.declared.Refusal.{Refusal}
use Rattle.bits.specs.Lists.{joined}
use Rattle.crc.specs.Block.{payload}
use Rattle.fig.specs.declared.Fig.{Fig}
use Rattle.fig.specs.Format.{header_length}
use Rattle.fig.specs.Read as read
use Rattle.fig.specs.Read.{read_fig, fig_in, words_in}
use Rattle.fib.specs.declared.Fib.{Fib}
use Rattle.fib.specs.Format.{most_words}
use Rattle.fib.specs.Figs.{figs}
use Rattle.fib.specs.Walk.{is_tmc}
use Rattle.fib.specs.Read.{read_words, origin_of, words_after, origins_after}

-- the FIGs 5/1 among some FIGs, in order
unfoldable pub tmcs : List (List ℕ) → List (List ℕ)
tmcs [] = []
tmcs (f ∷ fs) = cond (is_tmc f) (f ∷ tmcs fs) (tmcs fs)

-- a FIG read by itself, with room for the most words: D1 and TCId, the words, and D1 and TCId as one number for each word
abbrev pub fig_by : List ℕ → Fig
fig_by f = fig_in (read_fig f most_words)

abbrev pub words_by : List ℕ → List ℕ
words_by f = words_in (read_fig f most_words) (drop header_length f)

abbrev pub origins_by : List ℕ → List ℕ
origins_by f = replicate (length (words_by f)) (origin_of (fig_by f))

-- the FIG reader takes it wherever there is room for its words: the answer, and the cells afterwards
pub record IsTaken (f : List ℕ) : Type 0 where
  pub answer : (room : ℕ) → length (words_by f) ≤ room → read_fig f room ≡ Ok (record { fig = fig_by f; count = length (words_by f) })
  pub after : (cells : List ℕ) → length (words_by f) ≤ length cells → read.words_after (read_fig f (length cells)) (drop header_length f) cells ≡ words_by f ++ drop (length (words_by f)) cells

abbrev pub AllTaken : List (List ℕ) → Type 0
AllTaken [] = Unit {0}
AllTaken (f ∷ fs) = IsTaken f × AllTaken fs

-- what the block gives is what the FIG reader gives for each of these FIGs by itself, one after the other: n words, which have room
pub record GivenBy (fs : List (List ℕ)) (s : List ℕ) (room n : ℕ) : Type 0 where
  pub taken : AllTaken fs
  pub count : n ≡ length (joined (map words_by fs))
  pub fits : n ≤ room
  pub words : (out : List ℕ) → words_after (read_words s room) out ≡ joined (map words_by fs) ++ drop n out
  pub origins : (out : List ℕ) → origins_after (read_words s room) out ≡ joined (map origins_by fs) ++ drop n out

-- the reading ended at a FIG 5/1 of the block, which the FIG reader refuses with the room that is left: the FIGs 5/1 before it were given
pub record StoppedBy (s : List ℕ) (room : ℕ) (fib : Fib) (refusal : Refusal) : Type 0 where
  pub before : List (List ℕ)
  pub fig : List ℕ
  pub behind : List (List ℕ)
  pub all : figs (payload s) ≡ before ++ fig ∷ behind
  pub tmc : is_tmc fig ≡ true
  pub begins : fib.at ≡ length (joined before)
  pub given : GivenBy (tmcs before) s room fib.count
  pub refused : read_fig fig (room - fib.count) ≡ Err refusal
