-- Checks in order, each with its refusal. What comes after checks `c` that give nothing is `result_and c later`.
use Rattle.std.specs.Prelude.{Bool, cond, Result, Err}
use Rattle.refusal.specs.declared.Refusal.{Refusal}

-- a check, the refusal where it fails, and what comes after it
abbrev pub must : {A : Type 0} → Bool → Refusal → Result A Refusal → Result A Refusal
must holds refusal later = cond holds later (Err refusal)
