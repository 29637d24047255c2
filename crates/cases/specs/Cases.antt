-- The cases that document 01 marks P under "Worked words", numbered by its lines; the FIG of line 3 is a case of reading (document 02, R-7).
-- A new case is a new line of this list.
use Rattle.std.specs.Prelude.{ℕ, ◌≡◌, true, false, List, [], ◌∷◌, pos, negsuc, length, drop, replicate}
use Rattle.std.specs.Prelude.{Ok, Err}
use Rattle.refusal.specs.declared.Refusal.TheVariants.{WrongLength, OutOfTurn, Label15}
use Rattle.word.specs.Samples.{single101, first401, later401, stray401, head401}
use Rattle.content.specs.declared.read.Unread.TheVariants as unread
use Rattle.content.specs.Items.{broken}
use Rattle.content.specs.Content.{content}
use Rattle.report.specs.declared.Unreadable.TheVariants.{Refused, Broken}
use Rattle.report.specs.Report.{multi_report}
use Rattle.report.specs.Read.{read_bits, read_report}
use Rattle.report.specs.Samples.{report101, report401}
use Rattle.assembler.specs.declared.Assembler.TheVariants.{Empty}
use Rattle.assembler.specs.declared.Answer.TheVariants.{Nothing}
use Rattle.assembler.specs.Answers.{leaving, reporting}
use Rattle.assembler.specs.Calls.{calls}
use Rattle.assembler.specs.Samples.{opened401}
use Rattle.fig.specs.Format.{header_length}
use Rattle.fig.specs.Read.{read_fig, words_after}
use Rattle.system.specs.declared.System.TheVariants.{Table}
use Rattle.system.specs.Read.{system_of}
use Rattle.drm.specs.declared.Reading.{Reading as Unit-as-Reading}
use Rattle.drm.specs.Read.{read_unit}
use Rattle.crc.specs.Block.{checked}
use Rattle.clock.specs.Expiry.{expiry_answer}
use Rattle.cases.specs.Case.{Case, case, rule}
use Rattle.cases.specs.Samples.{fig1, pair_fig, bare}

unfoldable pub cases : List Case
cases =
    case 1 (calls read_report Empty (single101 ∷ [])) (reporting report101 ∷ [])
    ∷ case 2 (calls read_report Empty (first401 ∷ later401 ∷ [])) (leaving opened401 (Ok Nothing) ∷ reporting report401 ∷ [])
    ∷ case 3 (read_fig pair_fig 2) (Ok (record { fig = fig1; count = 2 }))
    ∷ case 3 (words_after (read_fig pair_fig 2) (drop header_length pair_fig) (replicate 2 0)) (first401 ∷ later401 ∷ [])
    ∷ case 4 (calls read_report Empty (later401 ∷ [])) (leaving Empty (Err (Refused OutOfTurn)) ∷ [])
    ∷ case 4 (calls read_report Empty (first401 ∷ stray401 ∷ [])) (leaving opened401 (Ok Nothing) ∷ leaving Empty (Err (Refused OutOfTurn)) ∷ [])
    ∷ case 5 (content (replicate 28 false)) (Ok [])
    ∷ case 5 (content (replicate 28 true)) (Err (unread.Broken (broken Label15 28)))
    ∷ case 5 (read_bits head401 (replicate 28 false)) (Ok (multi_report head401 0 []))
    ∷ case 5 (read_bits head401 (replicate 28 true)) (Err (Broken Label15 0))
    ∷ case 6 (system_of 0x0466) (Ok (Table 17 1 0 0 1 1 0))
    ∷ case 7 (read_unit (checked (replicate 6 0)) 27) (Ok (record { unit = bare; count = 1 }))
    ∷ case 7 (read_unit (checked (replicate 7 0)) 27) (Err WrongLength)
    ∷ case 7 (read_unit (checked (replicate 126 0)) 27) (Ok (record { unit = bare; count = 27 }))
    ∷ rule 7 ((s : List ℕ) (room : ℕ) (r : Unit-as-Reading) → read_unit s room ≡ Ok r → r.unit.tmchi ≡ 0 → length s ≡ 8 → r.count ≡ 1)
    ∷ rule 7 ((s : List ℕ) (room : ℕ) (r : Unit-as-Reading) → read_unit s room ≡ Ok r → length s ≡ 9 → ⊥)
    ∷ rule 7 ((s : List ℕ) (room : ℕ) (r : Unit-as-Reading) → read_unit s room ≡ Ok r → r.unit.tmchi ≡ 0 → length s ≡ 128 → r.count ≡ 27)
    ∷ case 8 (expiry_answer 0 (pos 0) 0) (Ok (record { 0 = 1440 }))
    ∷ case 8 (expiry_answer 0 (pos 2) 0) (Ok (record { 0 = 1380 }))
    ∷ case 8 (expiry_answer 0 (negsuc 0) 0) (Ok (record { 0 = 30 }))
    ∷ []
