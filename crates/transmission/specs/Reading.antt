-- How messages are read, which is left open here: what a report is, why there may be none, and the rules by which a message gives one.
use Rattle.std.specs.Prelude.{ℕ, List, Result}
use Rattle.refusal.specs.declared.Refusal.{Refusal}
use Rattle.word.specs.declared.Head.{Head}

-- R is what a report is, and E says why there is none
pub record Rules (R E : Type 0) : Type 0 where
  -- the report of a single-group message: its duration, its diversion and its head
  pub single : ℕ → ℕ → Head → R
  -- the report of a multi-group message, from its head and the contents of its later groups; or why there is none
  pub multi : Head → List ℕ → Result R E
  -- a refusal that does not come of the content of a message
  pub plain : Refusal → E
