-- What some bytes say as a block (document 02, R-2; EN 300 401, 5.2.1), and the buffers afterwards.
use Rattle.std.specs.Prelude.{ℕ, ◌+◌, ◌*◌, min, cond, List, [], ◌++◌, map, length, drop, eqb, ⊤, Result, Ok, is_ok}
use Rattle.std.specs.Result.{result_and}
use Rattle.refusal.specs.declared.Refusal.{Refusal}
use Rattle.refusal.specs.declared.Refusal.TheVariants.{WrongLength, WrongCheckWord}
use Rattle.refusal.specs.Checks.{must}
use Rattle.crc.specs.Block.{payload, is_checked}
use Rattle.fig.specs.declared.Fig.{Fig}
use Rattle.fib.specs.declared.Reading.{Reading}
use Rattle.fib.specs.declared.Reading.TheVariants.{Whole, Stopped}
use Rattle.fib.specs.Format.{block_length}
use Rattle.fib.specs.Figs.{ended, figs, rest}
use Rattle.fib.specs.Walk.{Carried, End, all, refused_at, Walk, walk_from}

-- the whole block, before any FIG is read: its length, its check word, and FIGs that end within the data field
unfoldable pub check_block : List ℕ → Result ⊤ Refusal
check_block s =
    must (eqb (length s) block_length) WrongLength
    (must (is_checked s) WrongCheckWord
    (must (ended (rest (payload s))) WrongLength
    (Ok tt)))

-- the walk over its FIGs, with room for so many words
abbrev pub block_walk : List ℕ → ℕ → Walk
block_walk s room = walk_from 0 room (figs (payload s))

-- what is answered after a walk that gave n words, by how it ended
unfoldable pub ending_by : ℕ → End → Reading
ending_by n all = Whole n
ending_by n (refused_at refusal at) = Stopped (record { count = n; at = at }) refusal

abbrev pub ending : Walk → Reading
ending w = ending_by (length w.found) w.end

-- a block read with room for so many words
unfoldable pub read_block : List ℕ → ℕ → Result Reading Refusal
read_block s room = result_and (check_block s) (Ok (ending (block_walk s room)))

-- the words that it gives, each with its FIG; none where the block is refused
unfoldable pub read_words : List ℕ → ℕ → List Carried
read_words s room = cond (is_ok (check_block s)) (block_walk s room).found []

-- two buffers have room for as many words as the shorter
abbrev pub room_in : List ℕ → List ℕ → ℕ
room_in words origins = min (length words) (length origins)

-- the walk over the FIGs of a data field, into two buffers
abbrev pub walk_into : List ℕ → List ℕ → List ℕ → Walk
walk_into field words origins = walk_from 0 (room_in words origins) (figs field)

-- D1 and TCId as one number
abbrev pub origin_of : Fig → ℕ
origin_of fig = fig.d1 * 8 + fig.tcid

-- a buffer afterwards, whose cells take a number of each word: the first cells hold these, and later cells stay
unfoldable pub cells_after : (Carried → ℕ) → List Carried → List ℕ → List ℕ
cells_after number cs out = map number cs ++ drop (length cs) out

-- the word itself, and D1 and TCId of its FIG
abbrev pub words_after : List Carried → List ℕ → List ℕ
words_after = cells_after (λ c. c.word)

abbrev pub origins_after : List Carried → List ℕ → List ℕ
origins_after = cells_after (λ c. origin_of c.fig)
