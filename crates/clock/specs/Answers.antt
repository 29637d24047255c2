-- What the call for an expiry tells, as a number.
use Rattle.std.specs.Prelude.{ℕ, Result, Ok, Err}
use Rattle.refusal.specs.declared.Refusal.{Refusal}
use Rattle.clock.specs.declared.Utc.{Utc}

-- the minute at which the message ends; 0 on a refusal
abbrev pub minute_of : Result Utc Refusal → ℕ
minute_of (Ok minute) = minute.0
minute_of (Err refusal) = 0
