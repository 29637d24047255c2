-- The fields of an RDS type 8A group (document 01, "RDS"; ISO 14819-1, clause 7.2, figure 2).
use Rattle.std.specs.Prelude.{ℕ, ◌^◌, List, [], ◌∷◌, get_or}
use Rattle.rds.specs.declared.Group.{Group}

-- eight bytes: blocks 1 to 4 of two bytes each, the high byte first
abbrev pub group_length : ℕ
group_length = 8

-- words are the numbers below this
abbrev pub word_limit : ℕ
word_limit = 2 ^ 37

-- block 1 is the PI code; block 2 is group type, version, TP, PTY and X; blocks 3 and 4 are Y and Z. X, Y and Z make the word
abbrev pub group_format : List ℕ
group_format = 16 ∷ 4 ∷ 1 ∷ 1 ∷ 5 ∷ 37 ∷ []

-- the fields by name
abbrev pub pi_in : List ℕ → ℕ
pi_in f = get_or f 0 0

abbrev pub type_in : List ℕ → ℕ
type_in f = get_or f 1 0

abbrev pub version_in : List ℕ → ℕ
version_in f = get_or f 2 0

abbrev pub tp_in : List ℕ → ℕ
tp_in f = get_or f 3 0

abbrev pub pty_in : List ℕ → ℕ
pty_in f = get_or f 4 0

abbrev pub word_in : List ℕ → ℕ
word_in f = get_or f 5 0

-- the empty group: no programme, word 0
abbrev pub empty_group : Group
empty_group = record { pi = 0; tp = 0; pty = 0; word = 0 }

-- type 8, version 0 (8A)
abbrev pub group_values : Group → List ℕ
group_values g = g.pi ∷ 8 ∷ 0 ∷ g.tp ∷ g.pty ∷ g.word ∷ []
