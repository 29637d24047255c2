-- A FIG 5/1 (document 01, "FIG 5/1"; source 000, clause 5): a header of two bytes, words of one width, zero padding.
use Rattle.std.specs.Prelude.{ℕ, cond, List, [], ◌∷◌, get_or, eqb}
use Rattle.fig.specs.declared.Fig.{Fig}

-- bytes 0 and 1
abbrev pub header_length : ℕ
header_length = 2

-- the header and at most 28 data bytes (clause 5.1, note 1)
abbrev pub longest : ℕ
longest = 30

-- type, count of the bytes that follow the first, D1, D2, TCId, extension (figure 2)
abbrev pub fig_format : List ℕ
fig_format = 3 ∷ 5 ∷ 1 ∷ 1 ∷ 3 ∷ 3 ∷ []

-- its fields by name
abbrev pub type_in : List ℕ → ℕ
type_in f = get_or f 0 0

abbrev pub following_in : List ℕ → ℕ
following_in f = get_or f 1 0

abbrev pub d1_in : List ℕ → ℕ
d1_in f = get_or f 2 0

abbrev pub d2_in : List ℕ → ℕ
d2_in f = get_or f 3 0

abbrev pub tcid_in : List ℕ → ℕ
tcid_in f = get_or f 4 0

abbrev pub extension_in : List ℕ → ℕ
extension_in f = get_or f 5 0

-- words of 37 bits for service 0
abbrev pub empty_fig : Fig
empty_fig = record { d1 = 0; tcid = 0 }

-- the bits of a word: 37 for D1 = 0 (clause 5.1), 16 for D1 = 1 (clause 5.2)
unfoldable pub word_width : ℕ → ℕ
word_width d1 = cond (eqb d1 0) 37 16

-- the most words: six of 37 bits (clause 5.1), 14 of 16 bits (clause 5.2)
unfoldable pub most_words : ℕ → ℕ
most_words d1 = cond (eqb d1 0) 6 14
