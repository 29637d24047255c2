-- Numbers of 64 bits fit their room, and numbers put one after the other.
use Prim.Native.Nat.{ℕ, ◌+◌, ◌^◌, ◌≤◌, ◌<◌}
use native.Mathlib.Omega.{arith}
use mathlib.Core.Path.{◌≡◌, refl, sym, ap, ◌∙◌}
use mathlib.Core.List.{List, [], ◌∷◌, ◌++◌, append_assoc, append-nil}
use lib.ListN.{length, get_or, take}
use Rattle.std.proofs.lemmas.List.{take_more}
use Rattle.lines.specs.Decimal.{decimal}
use Rattle.lines.specs.Line.{space, fields}
use Rattle.lines.proofs.Decimals.{decimal-length}

-- a number of 64 bits has at most 20 digits
pub digits_64 : (n : ℕ) → n < 2 ^ 64 → length (decimal n) ≤ 20
digits_64 n h = decimal-length 19 n (omega arith)

fields-append : (vs us : List ℕ) → fields (vs ++ us) ≡ fields vs ++ fields us
unfolding fields
fields-append [] us = refl
fields-append (v ∷ vs) us = ap (λ (l : List ℕ). (space ∷ decimal v) ++ l) (fields-append vs us) ∙ sym (append_assoc (space ∷ decimal v) (fields vs) (fields us))

-- one number more
pub fields-more : (vs : List ℕ) (i : ℕ) → i < length vs → fields (take i vs) ++ (space ∷ decimal (get_or vs i 0)) ≡ fields (take (i + 1) vs)
unfolding fields
fields-more vs i h =
    ap (λ (l : List ℕ). fields (take i vs) ++ l) (sym (append-nil (space ∷ decimal (get_or vs i 0))))
    ∙ sym (fields-append (take i vs) (get_or vs i 0 ∷ []))
    ∙ ap fields (sym (take_more vs i 0 h))
