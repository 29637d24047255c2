-- Expiry alone (document 01, "The message table").
use Rattle.std.specs.Prelude.{ℕ, cond, not, List, Result, Ok, is_ok}
use Rattle.refusal.specs.Checks.{must}
use Rattle.refusal.specs.declared.Refusal.{Refusal}
use Rattle.refusal.specs.declared.Refusal.TheVariants.{Malformed, WrongMinute}
use Rattle.lent.specs.Table.{table_fits}
use Rattle.checks.specs.Checks.{minute_unfit}
use Rattle.table.specs.declared.Step.{Step}
use Rattle.table.specs.declared.Answer.{Answer}
use Rattle.table.specs.declared.Answer.TheVariants.{Freed}
use Rattle.table.specs.Steps.{stepped, after_expiry, expired_in}

-- the answer: a table that does not fit is refused, and then an unfit minute; else step 1
unfoldable pub expire_answer : List ℕ → (last minute : ℕ) → Result Answer Refusal
expire_answer t last minute =
    must (table_fits t) Malformed
    (must (not (minute_unfit last minute)) WrongMinute
    (Ok (Freed (expired_in minute t) 0)))

-- the state with the answer, and the table afterwards: a refusal changes nothing
abbrev pub expire_step : List ℕ → (last minute : ℕ) → Step
expire_step t last minute = stepped last minute (expire_answer t last minute)

unfoldable pub expire_table : List ℕ → (last minute : ℕ) → List ℕ
expire_table t last minute = cond (is_ok (expire_answer t last minute)) (after_expiry minute t) t
