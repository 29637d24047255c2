-- What a word and a frame print, and the session after them (document 01, "The listing program").
use Rattle.std.specs.Prelude.{ℕ, ◌+◌, ◌*◌, ◌%◌, ◌^◌, List, [], ◌∷◌, ◌++◌, drop, Result, Ok, Err}
use Rattle.refusal.specs.declared.Refusal.{Refusal}
use Rattle.report.specs.declared.Unreadable.{Unreadable}
use Rattle.report.specs.declared.Unreadable.TheVariants.{Refused}
use Rattle.rds.specs.declared.Run.{Run}
use Rattle.rds.specs.declared.Run.TheVariants as run
use Rattle.assembler.specs.declared.Assembler.TheVariants as assembler
use Rattle.assembler.specs.declared.Answer.{Answer}
use Rattle.assembler.specs.declared.Answer.TheVariants as answer
use Rattle.assembler.specs.declared.Step.{Step}
use Rattle.report.specs.Read.{read_report}
use Rattle.assembler.specs.Step.{step_of}
use Rattle.lines.specs.Line.{report_line, refusal_line, room}
use Rattle.framing.specs.Frame.{kind_of}
use Rattle.carriers.specs.Carried.{most_words, carried_by, run_after}
use Rattle.session.specs.declared.Session.{Session}

-- numbers count from 1; they have 64 bits
abbrev pub next : ℕ → ℕ
next n = (n + 1) % 2 ^ 64

-- before any frame
abbrev pub start : Session
start = record { assembler = assembler.Empty; run = run.Empty; frames = 0; reports = 0 }

-- the number of the last report, after an answer
unfoldable pub counted : Result Answer Unreadable → ℕ → ℕ
counted (Ok answer.Nothing) n = n
counted (Ok (answer.Report r)) n = next n
counted (Ok (answer.Tuning w)) n = n
counted (Ok (answer.Administration w)) n = n
counted (Err x) n = n

-- a report or a refusal prints its line; nothing yet, tuning and administration words print nothing
unfoldable pub answer_text : Result Answer Unreadable → ℕ → ℕ → List ℕ
answer_text (Ok answer.Nothing) number frame = []
answer_text (Ok (answer.Report r)) number frame = report_line number r
answer_text (Ok (answer.Tuning w)) number frame = []
answer_text (Ok (answer.Administration w)) number frame = []
answer_text (Err x) number frame = refusal_line frame x

-- one word
abbrev pub after_step : Session → Step → Session
after_step s step = record { assembler = step.next; run = s.run; frames = s.frames; reports = counted step.answer s.reports }

abbrev pub step_text : Session → Step → List ℕ
step_text s step = answer_text step.answer (counted step.answer s.reports) s.frames

unfoldable pub after_word : Session → ℕ → Session
after_word s w = after_step s (step_of read_report s.assembler w)

unfoldable pub word_text : Session → ℕ → List ℕ
word_text s w = step_text s (step_of read_report s.assembler w)

-- words in order; a refused one does not end them
unfoldable pub after_words : Session → List ℕ → Session
after_words s [] = s
after_words s (w ∷ ws) = after_words (after_word s w) ws

unfoldable pub words_text : Session → List ℕ → List ℕ
words_text s [] = []
words_text s (w ∷ ws) = word_text s w ++ words_text (after_word s w) ws

-- what a frame carries
unfoldable pub after_carried : Session → Result (List ℕ) Refusal → Session
after_carried s (Ok ws) = after_words s ws
after_carried s (Err refusal) = s

unfoldable pub carried_text : Session → Result (List ℕ) Refusal → List ℕ
carried_text s (Ok ws) = words_text s ws
carried_text s (Err refusal) = refusal_line s.frames (Refused refusal)

-- one frame, its kind and body: it is counted, and then what it carries
abbrev pub counting : Session → Run → Session
counting s r = record { assembler = s.assembler; run = r; frames = next s.frames; reports = s.reports }

abbrev pub entered : Session → List ℕ → Session
entered s r = counting s (run_after (kind_of r) s.run (drop 2 r))

unfoldable pub after_frame : Session → List ℕ → Session
after_frame s r = after_carried (entered s r) (carried_by (kind_of r) s.run (drop 2 r))

unfoldable pub frame_text : Session → List ℕ → List ℕ
frame_text s r = carried_text (entered s r) (carried_by (kind_of r) s.run (drop 2 r))

-- the most text that a frame gives
abbrev pub frame_room : ℕ
frame_room = most_words * room
