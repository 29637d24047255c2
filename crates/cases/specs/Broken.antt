-- Computed cases of content that breaks (document 02, R-8): the answers of a fresh assembler.
use Rattle.std.specs.Prelude.{ℕ, List, [], ◌∷◌, map, Result, Ok, Err}
use Rattle.word.specs.Samples.{first401, later401}
use Rattle.refusal.specs.declared.Refusal.TheVariants.{OutOfTurn, CutShort, Label15}
use Rattle.report.specs.declared.Unreadable.{Unreadable}
use Rattle.report.specs.declared.Unreadable.TheVariants.{Refused, Broken}
use Rattle.report.specs.Read.{read_report}
use Rattle.assembler.specs.declared.Assembler.TheVariants.{Empty}
use Rattle.assembler.specs.declared.Answer.{Answer}
use Rattle.assembler.specs.declared.Answer.TheVariants.{Nothing}
use Rattle.assembler.specs.Calls.{calls}
use Rattle.cases.specs.Case.{Case, case}

abbrev answers : List ℕ → List (Result Answer Unreadable)
answers words = map (λ s. s.answer) (calls read_report Empty words)

-- a value that does not fit; bits left over; label 15 at once; and in the second of three groups; INTER-ROAD; the last bit of five groups;
-- and a refusal that has no place
unfoldable pub broken_cases : List Case
broken_cases =
    case 1 (answers (first401 ∷ 0x024EEEEEEA ∷ [])) (Ok Nothing ∷ Err (Broken CutShort 24) ∷ [])
    ∷ case 2 (answers (first401 ∷ 0x0242018041 ∷ [])) (Ok Nothing ∷ Err (Broken CutShort 25) ∷ [])
    ∷ case 3 (answers (first401 ∷ 0x024FFFFFFF ∷ [])) (Ok Nothing ∷ Err (Broken Label15 0) ∷ [])
    ∷ case 4 (answers (first401 ∷ 0x025EEEEEEE ∷ 0x020EEF0000 ∷ [])) (Ok Nothing ∷ Ok Nothing ∷ Err (Broken Label15 36) ∷ [])
    ∷ case 5 (answers (0x028991FF41 ∷ 0x02401F4AFF ∷ [])) (Ok Nothing ∷ Err (Broken CutShort 16) ∷ [])
    ∷ case 6 (answers (first401 ∷ 0x027EEEEEEE ∷ 0x022EEEEEEE ∷ 0x021EEEEEEE ∷ 0x020EEEEE11 ∷ [])) (Ok Nothing ∷ Ok Nothing ∷ Ok Nothing ∷ Ok Nothing ∷ Err (Broken CutShort 111) ∷ [])
    ∷ case 7 (answers (later401 ∷ [])) (Err (Refused OutOfTurn) ∷ [])
    ∷ []
