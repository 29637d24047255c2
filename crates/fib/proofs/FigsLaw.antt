-- The law by which `figs` is to be read, `figs_law`: no FIGs where no whole one stands at the front; otherwise the first, and then the FIGs
-- of the rest.
use Prim.Native.Nat.{ℕ, zero, suc, ◌≤◌, ◌<◌}
use native.Mathlib.Omega.{arith}
use mathlib.Core.Path.{◌≡◌, refl, ap, ◌∙◌}
use mathlib.Core.List.{List, [], ◌∷◌}
use lib.ListN.{length, take, drop, length-drop}
use Rattle.std.specs.Prelude.{Option, Some, None}
use Rattle.fib.specs.Figs.{first_length, figs_by, figs_within, figs}
use Rattle.fib.proofs.Header.{first_fits}

-- the FIGs of the rest are asked only of fewer bytes
same_rest : (x : Option ℕ) (s : List ℕ) (f g : List ℕ → List (List ℕ)) → ((n : ℕ) → x ≡ Some n → (1 ≤ n) × (n ≤ length s)) → ((t : List ℕ) → length t < length s → f t ≡ g t) → figs_by f x s ≡ figs_by g x s
unfolding figs_by
same_rest None s f g h same = refl
same_rest (Some n) s f g h same = ap (λ (l : List (List ℕ)). take n s ∷ l) (same (drop n s) (omega (arith, length-drop n s, h n refl)))

-- a bound above the length is none
within_enough : (n m : ℕ) (s : List ℕ) → length s < n → length s < m → figs_within n s ≡ figs_within m s
unfolding figs_within
within_enough zero m s h k = absurd (omega arith)
within_enough (suc n) zero s h k = absurd (omega arith)
within_enough (suc n) (suc m) s h k = same_rest (first_length s) s (figs_within n) (figs_within m) (first_fits s) (λ t l. within_enough n m t (omega arith) (omega arith))

pub figs_law : (s : List ℕ) → figs s ≡ figs_by figs (first_length s) s
unfolding figs figs_within
figs_law s = same_rest (first_length s) s (figs_within (length s)) figs (first_fits s) (λ t l. within_enough (length s) (suc (length t)) t l (omega arith))

-- its two cases
pub figs-none : (s : List ℕ) → first_length s ≡ None → figs s ≡ []
unfolding figs_by
figs-none s e = figs_law s ∙ ap (λ (x : Option ℕ). figs_by figs x s) e

pub figs-first : (s : List ℕ) (n : ℕ) → first_length s ≡ Some n → figs s ≡ take n s ∷ figs (drop n s)
unfolding figs_by
figs-first s n e = figs_law s ∙ ap (λ (x : Option ℕ). figs_by figs x s) e
