-- What an answer tells of a block: how many words were read; of a FIG 5/1 that was refused, the byte at which it begins and its refusal's
-- number. Each is 0 where there is none.
use Rattle.std.specs.Prelude.{ℕ, Result, Ok, Err}
use Rattle.refusal.specs.declared.Refusal.{Refusal}
use Rattle.refusal.specs.Number.{number}
use Rattle.fib.specs.declared.Reading.{Reading}
use Rattle.fib.specs.declared.Reading.TheVariants.{Whole, Stopped}

abbrev pub count_in : Result Reading Refusal → ℕ
count_in (Ok (Whole n)) = n
count_in (Ok (Stopped fib refusal)) = fib.count
count_in (Err refusal) = 0

abbrev pub begin_in : Result Reading Refusal → ℕ
begin_in (Ok (Whole n)) = 0
begin_in (Ok (Stopped fib refusal)) = fib.at
begin_in (Err refusal) = 0

abbrev pub stop_in : Result Reading Refusal → ℕ
stop_in (Ok (Whole n)) = 0
stop_in (Ok (Stopped fib refusal)) = number refusal
stop_in (Err refusal) = 0
