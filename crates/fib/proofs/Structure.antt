-- The FIGs of some bytes and what follows them are their structure, and the only one.
use Prim.Native.Nat.{ℕ, zero, suc, ◌+◌, ◌-◌, ◌<◌}
use native.Mathlib.Omega.{arith}
use mathlib.Core.Path.{◌≡◌, refl, sym, ap, ap₂, subst, ◌∙◌}
use mathlib.Core.List.{List, [], ◌∷◌, ◌++◌, append_assoc}
use lib.ListN.{length, take, drop, length-append, length-drop, take-append-drop}
use lib.Seq.{length-take-le, take_all, take-add, drop-drop, take_at, drop_at}
use Rattle.std.specs.Prelude.{Option, Some, None}
use Rattle.bits.specs.Lists.{joined}
use Rattle.fib.specs.Figs.{first_length, figs, rest}
use Rattle.fib.specs.Structure.{AllFigs, none, more, Structure}
use Rattle.fib.proofs.Header.{first_fits, first-append, first_is_fig}
use Rattle.fib.proofs.FigsLaw.{figs-none, figs-first}

module _ (s : List ℕ) (n : ℕ) (e : first_length s ≡ Some n) where
  length-first : length (take n s) ≡ n
  length-first = length-take-le n s (first_fits s n e).1

  joined-first : joined (figs s) ≡ take n s ++ joined (figs (drop n s))
  unfolding joined
  joined-first = ap joined (figs-first s n e)

  -- the bytes of the FIGs are those of the first and of the others
  pub length-joined : length (joined (figs s)) ≡ n + length (joined (figs (drop n s)))
  length-joined = ap length joined-first ∙ length-append (take n s) (joined (figs (drop n s))) ∙ ap (λ (m : ℕ). m + length (joined (figs (drop n s)))) length-first

  -- what follows them is what follows the others
  rest_first : rest s ≡ rest (drop n s)
  rest_first = ap (λ (m : ℕ). drop m s) length-joined ∙ sym (drop-drop (length (joined (figs (drop n s)))) n s)

-- the same as the code lends the others
pub rest_part : (s : List ℕ) (n : ℕ) → first_length s ≡ Some n → rest (take (length s - n) (drop n s)) ≡ rest s
rest_part s n e = ap rest (take_all (length s - n) (drop n s) (omega (arith, length-drop n s))) ∙ sym (rest_first s n e)

-- where no FIG begins, all follows
pub rest_none : (s : List ℕ) → first_length s ≡ None → rest s ≡ s
unfolding joined
rest_none s e = ap (λ (fs : List (List ℕ)). drop (length (joined fs)) s) (figs-none s e)

-- by the number of bytes
by_length : (P : List ℕ → Type 0) → ((s : List ℕ) → first_length s ≡ None → P s) → ((s : List ℕ) (n : ℕ) → first_length s ≡ Some n → P (drop n s) → P s) → (m : ℕ) (s : List ℕ) → length s < m → P s
by_length P last first zero s h = absurd (omega arith)
by_length P last first (suc m) s h =
    by_first (λ n e. by_length P last first m (drop n s) (omega (arith, length-drop n s, first_fits s n e))) (first_length s) refl
  where
    by_first : ((n : ℕ) → first_length s ≡ Some n → P (drop n s)) → (x : Option ℕ) → first_length s ≡ x → P s
    by_first others None e = last s e
    by_first others (Some n) e = first s n e (others n e)

pub figs_ind : (P : List ℕ → Type 0) → ((s : List ℕ) → first_length s ≡ None → P s) → ((s : List ℕ) (n : ℕ) → first_length s ≡ Some n → P (drop n s) → P s) → (s : List ℕ) → P s
figs_ind P last first s = by_length P last first (suc (length s)) s (omega arith)

-- the FIGs are the first bytes
front : (s : List ℕ) → joined (figs s) ≡ take (length (joined (figs s))) s
unfolding joined
front =
    figs_ind (λ s. joined (figs s) ≡ take (length (joined (figs s))) s)
    (λ s e. let n = ap joined (figs-none s e) in n ∙ sym (ap (λ (l : List ℕ). take (length l) s) n))
    (λ s n e ih.
    joined-first s n e
    ∙ ap (λ (l : List ℕ). take n s ++ l) ih
    ∙ sym (take-add n (length (joined (figs (drop n s)))) s)
    ∙ ap (λ (m : ℕ). take m s) (sym (length-joined s n e)))

-- and what follows begins with no whole FIG
ends : (s : List ℕ) → first_length (rest s) ≡ None
unfolding joined
ends =
    figs_ind (λ s. first_length (rest s) ≡ None)
    (λ s e. ap (λ (fs : List (List ℕ)). first_length (drop (length (joined fs)) s)) (figs-none s e) ∙ e)
    (λ s n e ih. ap first_length (rest_first s n e) ∙ ih)

each-fig : (s : List ℕ) → AllFigs (figs s)
each-fig =
    figs_ind (λ s. AllFigs (figs s))
    (λ s e. subst AllFigs (sym (figs-none s e)) none)
    (λ s n e ih. subst AllFigs (sym (figs-first s n e)) (more (first_is_fig s n e) ih))

pub structure : (s : List ℕ) → Structure s (figs s) (rest s)
structure s = record {
  each = each-fig s;
  all = sym (ap (λ (l : List ℕ). l ++ rest s) (front s) ∙ take-append-drop (length (joined (figs s))) s);
  end = ends s;
}

-- FIGs followed by what begins with none are found again
figs_back : (fs : List (List ℕ)) (r : List ℕ) → AllFigs fs → first_length r ≡ None → figs (joined fs ++ r) ≡ fs
unfolding joined
figs_back [] r none e = figs-none r e
figs_back (f ∷ fs) r (more fig figs') e =
    let s = f ++ (joined fs ++ r) in
    let n : first_length s ≡ Some (length f) = first-append f (joined fs ++ r) fig in
    ap figs (append_assoc f (joined fs) r)
    ∙ figs-first s (length f) n
    ∙ ap₂ (λ (x : List ℕ) (xs : List (List ℕ)). x ∷ xs)
    (take_at f (joined fs ++ r) (length f) refl)
    (ap figs (drop_at f (joined fs ++ r) (length f) refl) ∙ figs_back fs r figs' e)

pub only : (s : List ℕ) (fs : List (List ℕ)) (r : List ℕ) → Structure s fs r → (fs ≡ figs s) × (r ≡ rest s)
only s fs r h =
    let same : figs s ≡ fs = ap figs h.all ∙ figs_back fs r h.each h.end in
    (sym same, sym (ap₂ (λ (l : List ℕ) (xs : List (List ℕ)). drop (length (joined xs)) l) h.all same ∙ drop_at (joined fs) r (length (joined fs)) refl))
