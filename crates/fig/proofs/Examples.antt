-- The data lengths of a FIG (document 01, "FIG 5/1"), computed.
use Prim.Native.Nat.{ℕ, zero, suc, ◌*◌, ◌/◌}
use mathlib.Core.Path.{◌≡◌, refl}
use mathlib.Core.Bool.{cond}
use mathlib.Core.List.{List, [], ◌∷◌}
use Rattle.fig.specs.Read.{length_fits}

-- the lengths below n that data may have, the longest first, each with its number of words
pub lengths : ℕ → ℕ → List (ℕ × ℕ)
lengths w zero = []
lengths w (suc n) = cond (length_fits w n) ((n, n * 8 / w) ∷ lengths w n) (lengths w n)

pub lengths_37 : lengths 37 29 ≡ (28, 6) ∷ (24, 5) ∷ (19, 4) ∷ (14, 3) ∷ (10, 2) ∷ (5, 1) ∷ []
unfolding lengths
lengths_37 = refl

pub lengths_16 : lengths 16 29 ≡ (28, 14) ∷ (26, 13) ∷ (24, 12) ∷ (22, 11) ∷ (20, 10) ∷ (18, 9) ∷ (16, 8) ∷ (14, 7) ∷ (12, 6) ∷ (10, 5) ∷ (8, 4) ∷ (6, 3) ∷ (4, 2) ∷ (2, 1) ∷ []
unfolding lengths
lengths_16 = refl
