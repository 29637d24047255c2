-- What the calls on RDS groups, FIGs, blocks and data units answer (include/alertc.h): on a refusal its number, and 0 elsewhere.
use Rattle.std.specs.Prelude.{ℕ, List, Option, Result, Ok, Err}
use Rattle.refusal.specs.declared.Refusal.{Refusal}
use Rattle.refusal.specs.Number.{number, refusal_in}
use Rattle.rds.specs.declared.Group.{Group}
use Rattle.rds.specs.Read as group
use Rattle.rds.specs.declared.Run.{Run}
use Rattle.rds.specs.declared.Step.{Step}
use Rattle.rds.specs.Repeat as repeat
use Rattle.fig.specs.declared.Reading.{Reading as Fig-as-Reading}
use Rattle.fig.specs.Read as fig
use Rattle.fib.specs.declared.Reading.{Reading as Fib-as-Reading}
use Rattle.fib.specs.Answers as fib
use Rattle.drm.specs.declared.Reading.{Reading as Unit-as-Reading}
use Rattle.drm.specs.Read as unit
use Rattle.c_values.specs.declared.runs.PlainRun.{PlainRun}
use Rattle.c_values.specs.Runs.{run_from, run_of}
use Rattle.c_answers.specs.declared.carriers.GroupReading.{GroupReading}
use Rattle.c_answers.specs.declared.carriers.Received.{Received}
use Rattle.c_answers.specs.declared.carriers.FigReading.{FigReading}
use Rattle.c_answers.specs.declared.carriers.FibReading.{FibReading}
use Rattle.c_answers.specs.declared.carriers.UnitReading.{UnitReading}

abbrev pub group_reading : Result Group Refusal → GroupReading
group_reading r = record { group = group.group_in r; refusal = refusal_in r }

-- a run, and what the answer tells
abbrev pub received_with : PlainRun → Result (Option ℕ) Refusal → Received
received_with r a = record { run = r; word = repeat.valid_word a; valid = repeat.valid_in a; refusal = refusal_in a }

abbrev pub received_by : Step → Received
received_by s = received_with (run_of s.run) s.answer

-- a run that no calls give is refused (9), and stays
abbrev pub received_after : PlainRun → Result Run Refusal → List ℕ → Received
received_after r (Ok run) bytes = received_by (repeat.received run bytes)
received_after r (Err refusal) bytes = record { run = r; word = 0; valid = 0; refusal = number refusal }

abbrev pub received : PlainRun → List ℕ → Received
received r bytes = received_after r (run_from r) bytes

abbrev pub fig_reading : Result Fig-as-Reading Refusal → FigReading
fig_reading r = record { count = fig.count_in r; fig = fig.fig_in r; refusal = refusal_in r }

-- a FIG's refusal is no refusal of the block
abbrev pub fib_reading : Result Fib-as-Reading Refusal → FibReading
fib_reading r = record { count = fib.count_in r; begin = fib.begin_in r; stop = fib.stop_in r; refusal = refusal_in r }

abbrev pub unit_reading : Result Unit-as-Reading Refusal → UnitReading
unit_reading r = record { count = unit.count_in r; unit = unit.unit_in r; refusal = refusal_in r }
