-- What a number stands for as a 37-bit word (document 01, "The 37-bit word"; ISO 14819-1, clauses 7.4, 8.6, 9.3, 9.4.2 and 9.4.3).
use Rattle.std.specs.Prelude.{ℕ, cond, List, leb, eqb}
use Rattle.word.specs.declared.Word.{Word}
use Rattle.word.specs.declared.Word.TheVariants.{Single, First, Later, Tuning, Administration, Index7, Beyond}
use Rattle.word.specs.Format.{limit, head_fields, later_fields, flag_t, flag_f, low_x, top_y, head_of, mark_in, gsi_in, content_in}

-- the kind of a word with T = 0 and F = 0, by its fields: h in the head format, l in the later group's
unfoldable pub multi_by : ℕ → List ℕ → List ℕ → Word
multi_by n h l =
    cond (eqb (low_x h) 0) (Administration n)
    (cond (eqb (low_x h) 7) (Index7 n)
    (cond (eqb (top_y h) 1) (First (low_x h) (head_of h))
    (Later (low_x l) (mark_in l) (gsi_in l) (content_in l))))

-- the kind of a word by T and F
unfoldable pub kind_by : ℕ → List ℕ → List ℕ → Word
kind_by n h l =
    cond (eqb (flag_t h) 1) (Tuning n)
    (cond (eqb (flag_f h) 1) (Single (low_x h) (top_y h) (head_of h))
    (multi_by n h l))

-- the kind and fields of any number
unfoldable pub kind_of : ℕ → Word
kind_of n = cond (leb limit n) (Beyond n) (kind_by n (head_fields n) (later_fields n))

-- what a kind says of its number: refusal 9 where it is no word, else 0
abbrev pub refusal_of : Word → ℕ
refusal_of (Single duration diversion head) = 0
refusal_of (First ci head) = 0
refusal_of (Later ci second gsi content) = 0
refusal_of (Tuning n) = 0
refusal_of (Administration n) = 0
refusal_of (Index7 n) = 0
refusal_of (Beyond n) = 9
