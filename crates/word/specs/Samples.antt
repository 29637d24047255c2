-- The worked words of document 01 ("Worked words") and their heads. The worked cases and the examples of the crates above speak of these.
use Rattle.std.specs.Prelude.{ℕ}
use Rattle.word.specs.declared.Head.{Head}

-- a single-group message of the first head, duration 3
abbrev pub single101 : ℕ
single101 = 0x0B50653039

abbrev pub head101 : Head
head101 = record { direction = 1; extent = 2; event = 101; location = 12345 }

-- the two groups of a message of the second head, continuity index 2
abbrev pub first401 : ℕ
first401 = 0x02899101F4

abbrev pub later401 : ℕ
later401 = 0x0243502000

abbrev pub head401 : Head
head401 = record { direction = 0; extent = 1; event = 401; location = 500 }

-- the later group under another index, 3
abbrev pub stray401 : ℕ
stray401 = 0x0343502000
