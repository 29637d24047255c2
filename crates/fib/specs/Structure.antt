-- What it is for bytes to be FIGs and what follows them (EN 300 401, 5.2.1).
use Rattle.std.specs.Prelude.{ℕ, ◌≡◌, false, List, [], ◌∷◌, ◌++◌, length, None}
use Rattle.bits.specs.Lists.{joined}
use Rattle.fib.specs.Figs.{ended, length_said, first_length}

-- the bytes of a FIG: a header that is not the end marker, and as many bytes more as it counts
pub record IsFig (f : List ℕ) : Type 0 where
  pub begins : ended f ≡ false
  pub counts : length_said f ≡ length f

-- each of some FIGs is one
pub data AllFigs : List (List ℕ) → Type 0 where
  none : AllFigs []
  more : {f : List ℕ} {fs : List (List ℕ)} → IsFig f → AllFigs fs → AllFigs (f ∷ fs)

-- FIGs one after the other, and then bytes at whose front no whole FIG stands
pub record Structure (s : List ℕ) (fs : List (List ℕ)) (rest : List ℕ) : Type 0 where
  pub each : AllFigs fs
  pub all : s ≡ joined fs ++ rest
  pub end : first_length rest ≡ None
