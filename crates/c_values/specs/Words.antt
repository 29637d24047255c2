-- 37-bit words as C has them (include/alertc.h, "37-bit words").
use Rattle.std.specs.Prelude.{Bool, cond, ◌&&◌, eqb, Result}
use Rattle.std.specs.Result.{result_unwrap_or}
use Rattle.word.specs.declared.Head.{Head}
use Rattle.word.specs.declared.Word.{Word}
use Rattle.word.specs.declared.Word.TheVariants.{Single, First, Later, Tuning, Administration, Index7, Beyond}
use Rattle.c_values.specs.declared.words.WordFields.{WordFields}
use Rattle.refusal.specs.declared.Refusal.{Refusal}
use Rattle.c_values.specs.Whose.{whose}

abbrev pub no_head : Head
no_head = record { direction = 0; extent = 0; event = 0; location = 0 }

-- the kind and its fields, the others 0
unfoldable pub fields_of : Word → WordFields
fields_of (Single d v h) = record { word = 0; content = 0; head = h; duration = d; diversion = v; ci = 0; second = 0; gsi = 0; kind = 0 }
fields_of (First ci h) = record { word = 0; content = 0; head = h; duration = 0; diversion = 0; ci = ci; second = 0; gsi = 0; kind = 1 }
fields_of (Later ci s g c) = record { word = 0; content = c; head = no_head; duration = 0; diversion = 0; ci = ci; second = s; gsi = g; kind = 2 }
fields_of (Tuning n) = record { word = n; content = 0; head = no_head; duration = 0; diversion = 0; ci = 0; second = 0; gsi = 0; kind = 3 }
fields_of (Administration n) = record { word = n; content = 0; head = no_head; duration = 0; diversion = 0; ci = 0; second = 0; gsi = 0; kind = 4 }
fields_of (Index7 n) = record { word = n; content = 0; head = no_head; duration = 0; diversion = 0; ci = 0; second = 0; gsi = 0; kind = 5 }
fields_of (Beyond n) = record { word = 0; content = 0; head = no_head; duration = 0; diversion = 0; ci = 0; second = 0; gsi = 0; kind = 0 }

-- the word of the kind's own fields
unfoldable pub word_by : WordFields → Word
word_by f =
    cond (eqb f.kind 0) (Single f.duration f.diversion f.head)
    (cond (eqb f.kind 1) (First f.ci f.head)
    (cond (eqb f.kind 2) (Later f.ci f.second f.gsi f.content)
    (cond (eqb f.kind 3) (Tuning f.word)
    (cond (eqb f.kind 4) (Administration f.word) (Index7 f.word)))))

abbrev pub same_head : Head → Head → Bool
same_head h k = eqb h.direction k.direction && (eqb h.extent k.extent && (eqb h.event k.event && eqb h.location k.location))

abbrev pub same : WordFields → WordFields → Bool
same f g =
    eqb f.word g.word && (eqb f.content g.content && (same_head f.head g.head
    && (eqb f.duration g.duration && (eqb f.diversion g.diversion
    && (eqb f.ci g.ci && (eqb f.second g.second && (eqb f.gsi g.gsi && eqb f.kind g.kind)))))))

-- the word whose fields these are; refused where there is none
unfoldable pub word_from : WordFields → Result Word Refusal
word_from f = whose same fields_of f (word_by f)

-- and where there is none, a number that is no word
abbrev pub word_or_none : WordFields → Word
word_or_none f = result_unwrap_or (word_from f) (Beyond 0)
