-- What the call for an expiry answers (document 01, "The message table").
use Rattle.std.specs.Prelude.{ℕ, ℤ, leb, Result, Ok}
use Rattle.refusal.specs.declared.Refusal.{Refusal}
use Rattle.refusal.specs.declared.Refusal.TheVariants.{Malformed, Unfit, WrongMinute}
use Rattle.refusal.specs.Checks.{must}
use Rattle.clock.specs.declared.Utc.{Utc}
use Rattle.clock.specs.Time.{expiry_of, offset_fits, longest_life, largest}

-- refused, as in a take: a life too long, then an offset out of its range, then a minute too large
unfoldable pub expiry_answer : ℕ → ℤ → ℕ → Result Utc Refusal
expiry_answer minute lto life =
    must (leb life longest_life) Malformed
    (must (offset_fits lto) Unfit
    (must (leb minute largest) WrongMinute
    (Ok (record { 0 = expiry_of minute lto life }))))
