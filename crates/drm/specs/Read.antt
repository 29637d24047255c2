-- What some bytes say as a DRM data unit (document 01, "DRM"; source 002, clause 5).
use Rattle.std.specs.Prelude.{ℕ, ◌-◌, ◌%◌, Bool, ◌&&◌, List, ◌++◌, length, drop, leb, eqb, ⊤, Result, Ok, Err}
use Rattle.std.specs.Result.{result_and}
use Rattle.bits.specs.Bits.{all_zero}
use Rattle.bits.specs.Fields.{flat, words}
use Rattle.refusal.specs.declared.Refusal.{Refusal}
use Rattle.refusal.specs.declared.Refusal.TheVariants.{WrongLength, OtherKind, Reserved, WrongCheckWord, SmallBuffer}
use Rattle.refusal.specs.Checks.{must}
use Rattle.crc.specs.Block.{payload, is_checked}
use Rattle.drm.specs.declared.DataUnit.{DataUnit}
use Rattle.drm.specs.declared.Reading.{Reading}
use Rattle.drm.specs.Format.{shortest, longest, word_width, tmchi_in, rfu_in, system_in, alert_c, empty_unit}
use Rattle.drm.specs.Payload.{start, aid, header, system_words, words_at, count_from, padding, unit_of}

-- 8 to 128 bytes
abbrev pub length_fits : ℕ → Bool
length_fits n = leb shortest n && leb n longest

-- rfu, the AID, and one system word or more in a header (m is at least TMCHI)
unfoldable pub test_fields : List ℕ → ℕ → List ℕ → Result ⊤ Refusal
test_fields f aid h =
    must (eqb (rfu_in f) 0) Reserved
    (must (eqb aid alert_c) OtherKind
    (must (leb (tmchi_in f) (system_in h)) Reserved
    (Ok tt)))

-- with user words from bit a on: a header that fits, at most 7 bits left over, zero padding, room for the words
unfoldable pub test_words : ℕ → List Bool → ℕ → Result ⊤ Refusal
test_words a l room =
    must (leb a (length l)) WrongLength
    (must (leb ((length l - a) % word_width) 7) WrongLength
    (must (all_zero (padding a l)) Reserved
    (must (leb (count_from a l) room) SmallBuffer
    (Ok tt))))

-- the bits before the check word; a unit has 48 or more, so that all fields up to m lie within them, and only system words may not
unfoldable pub test_payload : List Bool → ℕ → Result ⊤ Refusal
test_payload l room = result_and (test_fields (start l) (aid l) (header l)) (test_words (words_at l) l room)

-- the length and the check word, and then the rest
unfoldable pub test_unit : List ℕ → ℕ → Result ⊤ Refusal
test_unit s room =
    must (length_fits (length s)) WrongLength
    (must (is_checked s) WrongCheckWord
    (test_payload (flat 8 (payload s)) room))

-- the unit in the bits before the check word, and the number of its user words
unfoldable pub taken : List Bool → Reading
taken l = record { unit = unit_of (start l) (header l) (system_words l); count = count_from (words_at l) l }

-- a unit read into a buffer with room for so many words
unfoldable pub read_unit : List ℕ → ℕ → Result Reading Refusal
read_unit s room = result_and (test_unit s room) (Ok (taken (flat 8 (payload s))))

-- the buffer afterwards: the first cells hold the words and later cells stay; a refusal leaves it
unfoldable pub words_after : Result Reading Refusal → List Bool → List ℕ → List ℕ
words_after (Ok r) l out = words word_width r.count (drop (words_at l) l) ++ drop r.count out
words_after (Err e) l out = out

-- what the answer tells: the unit, empty on a refusal, and the number of its user words
abbrev pub unit_in : Result Reading Refusal → DataUnit
unit_in (Ok r) = r.unit
unit_in (Err e) = empty_unit

abbrev pub count_in : Result Reading Refusal → ℕ
count_in (Ok r) = r.count
count_in (Err e) = 0
