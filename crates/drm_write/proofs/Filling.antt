-- Four bit strings laid one after the other over a whole one.
use Prim.Native.Nat.{ℕ, ◌+◌, ◌≤◌}
use native.Mathlib.Omega.{arith}
use mathlib.Core.Path.{◌≡◌, ap, ◌∙◌}
use mathlib.Core.Bool.{Bool}
use mathlib.Core.List.{List, ◌++◌, append_assoc, append-nil}
use lib.ListN.{length, length-append, drop_of_length-le}
use Rattle.bits.specs.Overlay.{overlay}
use Rattle.bits.proofs.Stretch.{overlay-append}

overlay-whole : (b l : List Bool) → length b ≡ length l → overlay 0 b l ≡ b
overlay-whole b l e =
    let past : length l ≤ 0 + length b = omega arith in
    ap (λ (x : List Bool). b ++ x) (drop_of_length-le l past) ∙ append-nil b

next : (n : ℕ) (b c l : List Bool) → n ≡ length b → n ≤ length l → overlay n c (overlay 0 b l) ≡ overlay 0 (b ++ c) l
next n b c l e h =
    let a : n ≡ 0 + length b = omega arith in
    ap (λ (m : ℕ). overlay m c (overlay 0 b l)) a ∙ overlay-append 0 b c l (omega arith)

pub four_overlays : (l h t d p : List Bool) (f m n : ℕ) → f ≡ length h → m ≡ f + length t → n ≡ m + length d → length l ≡ n + length p
    → overlay n p (overlay m d (overlay f t (overlay 0 h l))) ≡ h ++ (t ++ (d ++ p))
four_overlays l h t d p f m n ef em en el =
    let two : m ≡ length (h ++ t) = omega (arith, length-append h t) in
    let three : n ≡ length (h ++ t ++ d) = omega (arith, length-append h t, length-append (h ++ t) d) in
    ap (λ (x : List Bool). overlay n p (overlay m d x)) (next f h t l ef (omega arith))
    ∙ ap (overlay n p) (next m (h ++ t) d l two (omega arith))
    ∙ next n (h ++ t ++ d) p l three (omega arith)
    ∙ overlay-whole (h ++ t ++ d ++ p) l (omega (arith, length-append (h ++ t ++ d) p, length-append (h ++ t) d, length-append h t))
    ∙ simp append_assoc
