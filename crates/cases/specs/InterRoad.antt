-- Computed cases of INTER-ROAD messages (ISO 14819-1, clause 6.7.2; document 02, R-1): read, written, and refused. The codes are those of the
-- tables 13/1 (0xFF41) and 15/61 (0xFFFD).
use Rattle.std.specs.Prelude.{ℕ, List, [], ◌∷◌, map, replicate, Result, Ok, Err}
use Rattle.refusal.specs.declared.Refusal.TheVariants.{CutShort, Unfit}
use Rattle.word.specs.declared.Head.{Head}
use Rattle.word.specs.Samples.{head101}
use Rattle.content.specs.declared.item.Item.{Item}
use Rattle.content.specs.Stored.{filled}
use Rattle.report.specs.declared.Report.{Report}
use Rattle.report.specs.declared.Unreadable.{Unreadable}
use Rattle.report.specs.declared.Unreadable.TheVariants.{Broken}
use Rattle.report.specs.declared.Form.TheVariants.{Single}
use Rattle.report.specs.Report.{single_report, multi_report}
use Rattle.report.specs.Read.{read_report}
use Rattle.assembler.specs.declared.Assembler.TheVariants.{Empty}
use Rattle.assembler.specs.declared.Answer.{Answer}
use Rattle.assembler.specs.declared.Answer.TheVariants.{Nothing}
use Rattle.assembler.specs.Calls.{calls, reports_of, after}
use Rattle.report_write.specs.Write.{words_of, write_report}
use Rattle.cases.specs.Case.{Case, case}

-- event 401, extent 1, at a location
abbrev head_at : ℕ → Head
head_at location = record { direction = 0; extent = 1; event = 401; location = location }

abbrev pairs : List Item
pairs = record { label = 3; value = 10 } ∷ record { label = 0; value = 2 } ∷ []

-- so many separators, items without a value
abbrev separators : ℕ → List Item
separators n = replicate n (record { label = 14; value = 0 })

-- the first group with 13/1's code, of continuity index 2
abbrev first : ℕ
first = 0x028991FF41

abbrev foreign : ℕ → List Item → Report
foreign real its = multi_report (head_at 0xFF41) real its

-- a single-group report at an FLT code
abbrev single_foreign : Report
single_foreign = single_report 3 0 (record { direction = 1; extent = 2; event = 101; location = 0xFF41 })

-- a single-group report with a real location
abbrev misplaced : Report
misplaced = record { form = Single; head = head101; real = 1; diversion = 0; duration = 3; items = filled [] }

-- the reports that a fresh assembler gives for words, and its answers
abbrev heard : List ℕ → List Report
heard words = reports_of (calls read_report Empty words)

abbrev answers : List ℕ → List (Result Answer Unreadable)
answers words = map (λ s. s.answer) (calls read_report Empty words)

unfoldable pub inter_road_cases : List Case
inter_road_cases =
    case 1 (heard (first ∷ 0x02401F4000 ∷ [])) (foreign 500 [] ∷ [])
    ∷ case 2 (heard (first ∷ 0x02501F4350 ∷ 0x0202000000 ∷ [])) (foreign 500 pairs ∷ [])
    ∷ case 2 (words_of 2 (foreign 500 pairs)) (first ∷ 0x02501F4350 ∷ 0x0202000000 ∷ [])
    ∷ case 3 (heard (first ∷ 0x02401F4040 ∷ [])) (foreign 500 (record { label = 0; value = 2 } ∷ []) ∷ [])
    ∷ case 4 (words_of 2 (foreign 500 (separators 24))) (first ∷ 0x02701F4EEE ∷ 0x022EEEEEEE ∷ 0x021EEEEEEE ∷ 0x020EEEEEEE ∷ [])
    ∷ case 4 (heard (first ∷ 0x02701F4EEE ∷ 0x022EEEEEEE ∷ 0x021EEEEEEE ∷ 0x020EEEEEEE ∷ [])) (foreign 500 (separators 24) ∷ [])
    ∷ case 5 (write_report 2 (foreign 500 (separators 25)) 5) (Err Unfit)
    ∷ case 5 (write_report 2 (multi_report (head_at 500) 0 (separators 25)) 5) (Ok 5)
    ∷ case 6 (heard (first ∷ 0x024FC00000 ∷ [])) (foreign 0xFC00 [] ∷ [])
    ∷ case 6 (words_of 2 (foreign 0xFC00 [])) (first ∷ 0x024FC00000 ∷ [])
    ∷ case 7 (heard (0x0B5065FF41 ∷ [])) (single_foreign ∷ [])
    ∷ case 7 (words_of 0 single_foreign) (0x0B5065FF41 ∷ [])
    ∷ case 8 (heard (0x028991FFFD ∷ 0x0243502000 ∷ [])) (multi_report (head_at 0xFFFD) 0x3502 [] ∷ [])
    ∷ case 9 (answers (first ∷ 0x02401F4AFF ∷ [])) (Ok Nothing ∷ Err (Broken CutShort 16) ∷ [])
    ∷ case 9 (after read_report Empty (first ∷ 0x02401F4AFF ∷ [])) Empty
    ∷ case 10 (write_report 2 (multi_report (head_at 500) 1 []) 5) (Err Unfit)
    ∷ case 10 (write_report 0 misplaced 5) (Err Unfit)
    ∷ []
