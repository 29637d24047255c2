-- The value that fields are turned into: the one made of them if, turned back, it has the same fields, else refusal 9.
use Rattle.std.specs.Prelude.{Bool, Result, Ok}
use Rattle.refusal.specs.declared.Refusal.{Refusal}
use Rattle.refusal.specs.declared.Refusal.TheVariants.{Unfit}
use Rattle.refusal.specs.Checks.{must}

abbrev pub whose : {F A : Type 0} → (F → F → Bool) → (A → F) → F → A → Result A Refusal
whose same of f made = must (same f (of made)) Unfit (Ok made)
