-- The repeat rule over a list of groups received, the run handed on from call to call.
use Rattle.std.specs.Prelude.{ℕ, ◌≡◌, List, [], ◌∷◌, Result, Option}
use Rattle.refusal.specs.declared.Refusal.{Refusal}
use Rattle.rds.specs.declared.Run.{Run}
use Rattle.rds.specs.declared.Run.TheVariants.{Empty, One, More}
use Rattle.rds.specs.Repeat.{received}

-- w is the word of the last 8A group received
unfoldable pub Last : Run → ℕ → Type 0
Last Empty w = ⊥
Last (One v) w = v ≡ w
Last (More v) w = v ≡ w

-- the answers to the groups, in order
unfoldable pub answers : Run → List (List ℕ) → List (Result (Option ℕ) Refusal)
answers r [] = []
answers r (s ∷ groups) = (received r s).answer ∷ answers (received r s).run groups
