-- The states that calls reach from the empty one. That `reachable` tells them from the others is `reached` in Reached.antt.
use Prim.Native.Nat.{ℕ, ◌^◌}
use mathlib.Core.Path.{◌≡◌}
use mathlib.Core.Bool.{Bool, true, ◌&&◌, cond}
use mathlib.Core.List.{List, [], ◌∷◌}
use lib.Dec.{ltb}
use lib.ListN.{length}
use Rattle.std.specs.Prelude.{Err}
use Rattle.bits.specs.Fields.{fits}
use Rattle.refusal.specs.declared.Refusal.TheVariants.{Unfit}
use Rattle.word.specs.Format.{head_part}
use Rattle.word.specs.Compose.{head_values, is_index}
use Rattle.transmission.specs.Reading.{Rules}
use Rattle.transmission.specs.State.{State, empty, started}
use Rattle.transmission.specs.Step.{Step, leaving, step}
use Rattle.transmission.specs.Calls.{after}
use Rattle.transmission.specs.Reachable.{count_fits}

-- 28 bits each
unfoldable pub contents_fit : List ℕ → Bool
contents_fit [] = true
contents_fit (c ∷ contents) = ltb c (2 ^ 28) && contents_fit contents

-- a state that some calls reach
unfoldable pub reachable : State → Bool
reachable empty = true
reachable (started ci head gsi contents) = is_index ci && (fits head_part (head_values head) && (contents_fit contents && count_fits (length contents) gsi))

-- one call: a state that no calls reach is refused and kept
unfoldable pub call : {R E : Type 0} (rules : Rules R E) → State → ℕ → Step R E
call rules s n = cond (reachable s) (step rules s n) (leaving s (Err (rules.plain Unfit)))

-- some calls lead to the state
abbrev pub Reached : {R E : Type 0} → (State → ℕ → Step R E) → State → Type 0
Reached assembler s = (words : List ℕ) × (after assembler empty words ≡ s)
