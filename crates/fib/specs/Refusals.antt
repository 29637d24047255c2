-- Why a FIG 5/1 of a block is refused.
use Rattle.std.specs.Prelude.{ℕ, ◌<◌, ◌≡◌, ◌⊎◌, false, List, length, drop}
use Rattle.refusal.specs.declared.Refusal.{Refusal}
use Rattle.refusal.specs.declared.Refusal.TheVariants.{WrongLength, Reserved, SmallBuffer}
use Rattle.fig.specs.Format.{header_length, word_width}
use Rattle.fig.specs.Read.{fields, fig_of, count_of, length_fits}

-- a FIG by its header: the bits of a word, and how many words its data holds
abbrev pub word_bits : List ℕ → ℕ
word_bits f = word_width (fig_of (fields f)).d1

abbrev pub word_count : List ℕ → ℕ
word_count f = count_of (word_bits f) (drop header_length f)

-- with room for so many words, by this refusal: the length of its data; D2 or the padding; the room
abbrev pub Why : List ℕ → ℕ → Refusal → Type 0
Why f room refusal = ((refusal ≡ WrongLength) × (length_fits (word_bits f) (length (drop header_length f)) ≡ false)) ⊎ ((refusal ≡ Reserved) ⊎ ((refusal ≡ SmallBuffer) × (room < word_count f)))
