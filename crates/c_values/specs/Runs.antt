-- The repeat rule's run as C has it (include/alertc.h, "RDS").
use Rattle.std.specs.Prelude.{◌^◌, Bool, cond, ◌&&◌, ◌||◌, eqb, ltb, Result, Ok}
use Rattle.refusal.specs.declared.Refusal.{Refusal}
use Rattle.refusal.specs.declared.Refusal.TheVariants.{Unfit}
use Rattle.refusal.specs.Checks.{must}
use Rattle.rds.specs.declared.Run.{Run}
use Rattle.rds.specs.declared.Run.TheVariants.{Empty, One, More}
use Rattle.c_values.specs.declared.runs.PlainRun.{PlainRun}

-- a run as C has it: how often its word was heard running, 2 for twice or more
abbrev pub run_of : Run → PlainRun
run_of Empty = record { word = 0; count = 0 }
run_of (One w) = record { word = w; count = 1 }
run_of (More w) = record { word = w; count = 2 }

-- the runs that calls give
abbrev pub run_fits : PlainRun → Bool
run_fits r = (eqb r.count 0 && eqb r.word 0) || ((eqb r.count 1 || eqb r.count 2) && ltb r.word (2 ^ 37))

-- the run of its own fields
abbrev pub run_by : PlainRun → Run
run_by r = cond (eqb r.count 0) Empty (cond (eqb r.count 1) (One r.word) (More r.word))

-- and back; refused where no calls give it
abbrev pub run_from : PlainRun → Result Run Refusal
run_from r = must (run_fits r) Unfit (Ok (run_by r))
