-- The code's answers, by the definitions of what a call answers (specs/Step.antt of `transmission`).
use Rattle.std.specs.Prelude.{ℕ, Result, Ok, Err}
use Rattle.bits.specs.Outcome.{mapped}
use Rattle.report.specs.declared.Report.{Report}
use Rattle.report.specs.declared.Unreadable.{Unreadable}
use Rattle.transmission.specs.Step as abstract
use Rattle.assembler.specs.declared.Assembler.{Assembler}
use Rattle.assembler.specs.declared.Assembler.TheVariants.{Empty}
use Rattle.assembler.specs.declared.Answer.{Answer}
use Rattle.assembler.specs.declared.Answer.TheVariants.{Nothing, Report as WithReport, Tuning, Administration}
use Rattle.assembler.specs.declared.Step.{Step}
use Rattle.assembler.specs.State.{assembler_of}

-- each case of the code's answer
unfoldable pub answer_of : abstract.Answer Report → Answer
answer_of abstract.nothing = Nothing
answer_of (abstract.report r) = WithReport r
answer_of (abstract.tuning n) = Tuning n
answer_of (abstract.administration n) = Administration n

-- what the code gives back for a step
abbrev pub given : abstract.Step Report Unreadable → Step
given s = record { next = assembler_of s.next; answer = mapped answer_of s.answer }

-- a state with an answer, and a report, after which the state is empty
abbrev pub leaving : Assembler → Result Answer Unreadable → Step
leaving a x = record { next = a; answer = x }

abbrev pub reporting : Report → Step
reporting r = leaving Empty (Ok (WithReport r))

-- what an answer tells: its kind, 0 nothing yet or a refusal, 1 a report, 2 a tuning word, 3 an administration word
abbrev pub kind_in : Result Answer Unreadable → ℕ
kind_in (Ok Nothing) = 0
kind_in (Ok (WithReport r)) = 1
kind_in (Ok (Tuning n)) = 2
kind_in (Ok (Administration n)) = 3
kind_in (Err e) = 0

-- the word handed on, 0 where there is none
abbrev pub word_in : Result Answer Unreadable → ℕ
word_in (Ok Nothing) = 0
word_in (Ok (WithReport r)) = 0
word_in (Ok (Tuning n)) = n
word_in (Ok (Administration n)) = n
word_in (Err e) = 0
