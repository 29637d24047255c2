-- The bytes of a FIG, by its header byte.
use Prim.Native.Nat.{ℕ, zero, suc, ◌+◌, ◌%◌, ◌≤◌, ◌<◌}
use native.Mathlib.Omega.{arith}
use mathlib.Core.Path.{◌≡◌, refl, sym, ap, subst, ◌∙◌}
use mathlib.Core.Bool.{true, false}
use mathlib.Core.List.{List, [], ◌∷◌, ◌++◌}
use lib.ListN.{length, take, get_or, length-append}
use lib.Seq.{length-take-le}
use lib.Dec.{leb}
use borrow.Author.Tests.{leb-true, le-leb, lt-leb, eq-eqb, ne_eqb}
use Rattle.std.specs.Prelude.{Some, None}
use Rattle.bits.specs.Bits.{bits}
use Rattle.bits.specs.Fields.{flat, unpack}
use Rattle.bits.proofs.Choice.{either, chosen, passed_over}
use Rattle.bits.proofs.Value.{val-bits}
use Rattle.fib.specs.Format.{end_marker}
use Rattle.fib.specs.Figs.{ended, length_said, first_length}
use Rattle.fib.specs.Structure.{IsFig}

-- the count is the five low bits
said : (b : ℕ) (s : List ℕ) → length_said (b ∷ s) ≡ 1 + b % 32
unfolding bits flat unpack
said b s = ap (λ (n : ℕ). 1 + n) (val-bits 5 b)

-- the three ways of a first FIG: none begins, it runs past the end, or it is whole
none-begins : (s : List ℕ) → ended s ≡ true → first_length s ≡ None
unfolding first_length
none-begins s e = chosen _ _ _ e

pub runs_past : (s : List ℕ) → leb (length_said s) (length s) ≡ false → first_length s ≡ None
unfolding first_length
runs_past s e = either (ended s) (λ h. chosen _ _ _ h) (λ h. passed_over _ _ _ h ∙ passed_over _ _ _ e)

pub is_whole : (s : List ℕ) → ended s ≡ false → leb (length_said s) (length s) ≡ true → first_length s ≡ Some (length_said s)
unfolding first_length
is_whole s h e = passed_over _ _ _ h ∙ chosen _ _ _ e

-- the first byte of some bytes
said_at : (s : List ℕ) → (length s ≡ 0 → ⊥) → length_said s ≡ 1 + get_or s 0 0 % 32
said_at [] some = absurd (some refl)
said_at (b ∷ s) some = said b s

marked : (s : List ℕ) → (length s ≡ 0 → ⊥) → get_or s 0 0 ≡ end_marker → ended s ≡ true
unfolding ended
marked [] some e = absurd (some refl)
marked (b ∷ s) some e = eq-eqb b end_marker e

unmarked : (s : List ℕ) → (length s ≡ 0 → ⊥) → (get_or s 0 0 ≡ end_marker → ⊥) → ended s ≡ false
unfolding ended
unmarked [] some ne = absurd (some refl)
unmarked (b ∷ s) some ne = ne_eqb b end_marker ne

-- the same as the code finds them, by the first byte
pub at_end : (s : List ℕ) → length s ≡ 0 → first_length s ≡ None
unfolding ended
at_end [] e = none-begins [] refl
at_end (b ∷ s) e = absurd (omega arith)

module _ (s : List ℕ) (some : length s ≡ 0 → ⊥) where
  pub at_marker : get_or s 0 0 ≡ end_marker → first_length s ≡ None
  at_marker e = none-begins s (marked s some e)

  pub counted : (get_or s 0 0 ≡ end_marker → ⊥) → 1 + get_or s 0 0 % 32 ≤ length s → first_length s ≡ Some (1 + get_or s 0 0 % 32)
  counted ne h = is_whole s (unmarked s some ne) (le-leb _ _ (subst (λ (n : ℕ). n ≤ length s) (sym (said_at s some)) h)) ∙ ap (λ (n : ℕ). Some n) (said_at s some)

  pub cut_off : length s < 1 + get_or s 0 0 % 32 → first_length s ≡ None
  cut_off h = runs_past s (lt-leb _ _ (subst (λ (n : ℕ). length s < n) (sym (said_at s some)) h))

-- the bytes of a whole first FIG are as many as its header says, and no more than there are
pub first_said : (s : List ℕ) (n : ℕ) → first_length s ≡ Some n → (ended s ≡ false) × (length_said s ≡ n) × (n ≤ length s)
first_said s n e =
    either (ended s)
    (λ h. let z = none-begins s h in absurd (cc))
    (λ h.
    either (leb (length_said s) (length s))
    (λ k. let w = is_whole s h k in let same : length_said s ≡ n = cc in (h, same, subst (λ (m : ℕ). m ≤ length s) same (leb-true (length_said s) (length s) k)))
    (λ k. let z = runs_past s k in absurd (cc)))

-- a first FIG has a byte, and takes no more than there are
pub first_fits : (s : List ℕ) (n : ℕ) → first_length s ≡ Some n → (1 ≤ n) × (n ≤ length s)
first_fits s n e = let h = first_said s n e in (omega (arith, h.1), h.2)

-- what comes after a FIG does not change it
pub first-append : (f s : List ℕ) → IsFig f → first_length (f ++ s) ≡ Some (length f)
unfolding ended
first-append [] s fig = cc
first-append (b ∷ f) s fig =
    let same : length_said (b ∷ f ++ s) ≡ length (b ∷ f) = said b (f ++ s) ∙ sym (said b f) ∙ fig.counts in
    let more : length_said (b ∷ f ++ s) ≤ length (b ∷ f ++ s) = omega (arith, same, length-append f s) in
    is_whole (b ∷ f ++ s) fig.begins (le-leb (length_said (b ∷ f ++ s)) (length (b ∷ f ++ s)) more) ∙ ap (λ (n : ℕ). Some n) same

-- and they are a FIG
pub first_is_fig : (s : List ℕ) (n : ℕ) → first_length s ≡ Some n → IsFig (take n s)
unfolding ended
first_is_fig [] n e = let z = at_end [] refl in absurd (cc)
first_is_fig (b ∷ s) zero e = absurd (omega (arith, first_fits (b ∷ s) 0 e))
first_is_fig (b ∷ s) (suc n) e =
    let h = first_said (b ∷ s) (suc n) e in
    let fits : n ≤ length s = omega (arith, h.2) in
    record { begins = h.0; counts = said b (take n s) ∙ sym (said b s) ∙ h.1 ∙ ap suc (sym (length-take-le n s fits)) }
