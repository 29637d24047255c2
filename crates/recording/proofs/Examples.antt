-- The worked input of document 01 gives exactly its two lines, computed.
use Prim.Native.Nat.{ℕ}
use mathlib.Core.Path.{◌≡◌, refl}
use mathlib.Core.List.{List, [], ◌∷◌, ◌++◌}
use Rattle.content.specs.Stored.{filled}
use Rattle.rds.specs.Repeat.{next_run, answer_to, after_reading, run_fits, received}
use Rattle.rds.specs.Read.{group_by, read_group}
use Rattle.assembler.proofs.Examples.{computing}
use Rattle.lines.specs.Decimal.{spelled, decimal}
use Rattle.lines.specs.Line.{header, fields, line}
use Rattle.framing.specs.Frame.{framed, frame_of, kind_of}
use Rattle.carriers.specs.Carried.{kind_by, carried_as, run_as, by_rds}
use Rattle.session.specs.Session.{counted, answer_text, after_word, word_text, after_words, words_text, after_carried, carried_text, after_frame, frame_text}
use Rattle.recording.specs.Listing.{from_frame, lines_by, lines_from, listing}

-- a frame with the worked group
abbrev pub worked : List ℕ
worked = 0x0A ∷ 0x00 ∷ 0x01 ∷ 0x00 ∷ 0x52 ∷ 0x01 ∷ 0x80 ∷ 0x0B ∷ 0x50 ∷ 0x65 ∷ 0x30 ∷ 0x39 ∷ []

-- `1 S 101 12345 1 2 0 3 0`
abbrev pub worked_line : List ℕ
worked_line = 49 ∷ 32 ∷ 83 ∷ 32 ∷ 49 ∷ 48 ∷ 49 ∷ 32 ∷ 49 ∷ 50 ∷ 51 ∷ 52 ∷ 53 ∷ 32 ∷ 49 ∷ 32 ∷ 50 ∷ 32 ∷ 48 ∷ 32 ∷ 51 ∷ 32 ∷ 48 ∷ 10 ∷ []

pub worked_listing : listing (worked ++ worked) ≡ header ++ worked_line
unfolding computing filled spelled decimal header fields line next_run answer_to after_reading run_fits received group_by read_group framed frame_of kind_by carried_as run_as by_rds kind_of counted answer_text after_word word_text after_words words_text after_carried carried_text after_frame frame_text from_frame lines_by lines_from listing
worked_listing = refl

-- no input: the header alone
pub empty-listing : listing [] ≡ header
unfolding header frame_of from_frame lines_by lines_from listing
empty-listing = refl
