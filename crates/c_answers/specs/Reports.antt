-- What the calls on reports and the assembler answer (include/alertc.h): on a refusal its number, and 0 elsewhere; where content breaks the
-- place.
use Rattle.std.specs.Prelude.{ℕ, Result, Ok, Err}
use Rattle.refusal.specs.declared.Refusal.{Refusal}
use Rattle.refusal.specs.Number.{refusal_in, count_in}
use Rattle.report.specs.declared.Report.{Report}
use Rattle.report.specs.declared.Unreadable.{Unreadable}
use Rattle.report.specs.Report.{blank}
use Rattle.report.specs.Answers as report
use Rattle.assembler.specs.declared.Answer.{Answer}
use Rattle.assembler.specs.declared.Answer.TheVariants as answers
use Rattle.assembler.specs.Answers as answer
use Rattle.assembler.specs.declared.Step.{Step}
use Rattle.c_values.specs.Reports.{plain_of}
use Rattle.c_values.specs.States.{state_of}
use Rattle.c_answers.specs.Refusals.{broken_in}
use Rattle.c_answers.specs.declared.reports.Written.{Written}
use Rattle.c_answers.specs.declared.reports.AssemblerAnswer.{AssemblerAnswer}

-- of words or bytes, by every writer
abbrev pub written_by : Result ℕ Refusal → Written
written_by r = record { count = count_in r; refusal = refusal_in r }

-- the report where the answer is one, else the blank one
abbrev pub report_in : Result Answer Unreadable → Report
report_in (Ok answers.Nothing) = blank
report_in (Ok (answers.Report r)) = r
report_in (Ok (answers.Tuning n)) = blank
report_in (Ok (answers.Administration n)) = blank
report_in (Err unreadable) = blank

-- the report, the next state, and what the answer tells
abbrev pub step_answer : Step → AssemblerAnswer
step_answer s = record {
  report = plain_of (report_in s.answer);
  next = state_of s.next;
  word = answer.word_in s.answer;
  kind = answer.kind_in s.answer;
  refusal = report.refusal_in s.answer;
  broken = broken_in s.answer;
}
