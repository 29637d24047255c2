-- What some bytes say as a FIG 5/1 (document 01, "FIG 5/1"; source 000, clause 5).
use Rattle.std.specs.Prelude.{ℕ, ◌-◌, ◌*◌, ◌/◌, ◌%◌, Bool, ◌&&◌, List, [], ◌++◌, length, take, drop, leb, eqb, ⊤, Result, Ok, Err}
use Rattle.std.specs.Result.{result_and}
use Rattle.bits.specs.Bits.{all_zero}
use Rattle.bits.specs.Fields.{flat, words, unpack}
use Rattle.refusal.specs.declared.Refusal.{Refusal}
use Rattle.refusal.specs.declared.Refusal.TheVariants.{WrongLength, OtherKind, Reserved, SmallBuffer}
use Rattle.refusal.specs.Checks.{must}
use Rattle.fig.specs.declared.Fig.{Fig}
use Rattle.fig.specs.declared.Reading.{Reading}
use Rattle.fig.specs.Format.{header_length, longest, fig_format, type_in, following_in, d1_in, d2_in, tcid_in, extension_in, empty_fig, word_width}

-- the header's fields: type, count, D1, D2, TCId, extension
abbrev pub fields : List ℕ → List ℕ
fields s = unpack fig_format (flat 8 (take header_length s))

-- D1 and TCId, from the fields
abbrev pub fig_of : List ℕ → Fig
fig_of f = record { d1 = d1_in f; tcid = tcid_in f }

-- how many words of w bits some data bytes hold
abbrev pub count_of : ℕ → List ℕ → ℕ
count_of w bytes = length bytes * 8 / w

-- the bits after those words
abbrev pub padding : ℕ → List ℕ → List Bool
padding w bytes = drop (count_of w bytes * w) (flat 8 bytes)

-- a data length of n bytes: one word or more, and 0 to 7 bits of padding (clause 5, "Padding")
abbrev pub length_fits : ℕ → ℕ → Bool
length_fits w n = leb 1 (n * 8 / w) && leb (n * 8 % w) 7

-- the header, by its fields: type 5, the count of the bytes that follow the first, extension 1, D2 = 0
unfoldable pub check_fields : ℕ → List ℕ → Result ⊤ Refusal
check_fields following f =
    must (eqb (type_in f) 5) OtherKind
    (must (eqb (following_in f) following) WrongLength
    (must (eqb (extension_in f) 1) OtherKind
    (must (eqb (d2_in f) 0) Reserved
    (Ok tt))))

-- 2 to 30 bytes, and then the header
unfoldable pub check_head : List ℕ → Result ⊤ Refusal
check_head s = must (leb header_length (length s) && leb (length s) longest) WrongLength (check_fields (length s - 1) (fields s))

-- the data bytes: their length, zero padding, room for the words
unfoldable pub check_data : ℕ → List ℕ → ℕ → Result ⊤ Refusal
check_data w bytes room =
    must (length_fits w (length bytes)) WrongLength
    (must (all_zero (padding w bytes)) Reserved
    (must (leb (count_of w bytes) room) SmallBuffer
    (Ok tt)))

-- the words of a FIG, by its data bytes
unfoldable pub read_data : Fig → List ℕ → ℕ → Result Reading Refusal
read_data fig bytes room = result_and (check_data (word_width fig.d1) bytes room) (Ok (record { fig = fig; count = count_of (word_width fig.d1) bytes }))

-- a FIG read into a buffer with room for so many words
unfoldable pub read_fig : List ℕ → ℕ → Result Reading Refusal
read_fig s room = result_and (check_head s) (read_data (fig_of (fields s)) (drop header_length s) room)

-- what the answer tells: D1 and TCId and the number of words, all 0 on a refusal
abbrev pub fig_in : Result Reading Refusal → Fig
fig_in (Ok r) = r.fig
fig_in (Err refusal) = empty_fig

abbrev pub count_in : Result Reading Refusal → ℕ
count_in (Ok r) = r.count
count_in (Err refusal) = 0

-- the words in the data bytes, none on a refusal
abbrev pub words_in : Result Reading Refusal → List ℕ → List ℕ
words_in (Ok r) bytes = words (word_width r.fig.d1) r.count (flat 8 bytes)
words_in (Err refusal) bytes = []

-- the buffer afterwards: the first cells hold the words and later cells stay; a refusal leaves it
unfoldable pub words_after : Result Reading Refusal → List ℕ → List ℕ → List ℕ
words_after r bytes out = words_in r bytes ++ drop (count_in r) out
