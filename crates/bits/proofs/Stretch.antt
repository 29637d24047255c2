-- The laws of `stretch` and `overlay`.
use Prim.Native.Nat.{ℕ, zero, suc, ◌+◌, ◌-◌, ◌≤◌}
use native.Mathlib.Nat.{suc-add, zero-add, add-zero, add_assoc}
use native.Mathlib.Omega.{arith}
use mathlib.Core.Path.{◌≡◌, sym, ap, ap₂, ◌∙◌}
use mathlib.Core.Bool.{Bool}
use mathlib.Core.List.{List, [], ◌∷◌, ◌++◌, append_assoc, append-nil}
use lib.ListN.{length, take, drop, length-append, take-append-drop}
use lib.Seq.{take_at, drop_at, take-take, drop-drop, take-nil, length-take-le, take-append-le, drop-append-le, take-append-add, drop-append-add}
use Rattle.bits.specs.Overlay.{stretch, overlay}

pub drop-take : (a m : ℕ) (l : List Bool) → drop a (take (a + m) l) ≡ take m (drop a l)
drop-take zero m l = ap (λ (n : ℕ). take n l) (zero-add m)
drop-take (suc a) m [] = ap (drop (suc a)) (take-nil (suc a + m)) ∙ sym (take-nil m)
drop-take (suc a) m (b ∷ l) = ap (λ (n : ℕ). drop (suc a) (take n (b ∷ l))) (suc-add a m) ∙ drop-take a m l

-- a stretch of a stretch
pub stretch-within : (a m o w : ℕ) (l : List Bool) → o + w ≤ m → stretch o w (stretch a m l) ≡ stretch (a + o) w l
stretch-within a m o w l h =
    let e : o + (m - o) ≡ m = omega arith in
    ap (λ (n : ℕ). stretch o w (stretch a n l)) (sym e)
    ∙ ap (take w) (drop-take o (m - o) (drop a l))
    ∙ take-take w (m - o) (drop o (drop a l)) (omega arith)
    ∙ ap (take w) (drop-drop o a l)

-- an overlay within the middle of a bit string
pub overlay-within : (p m q : List Bool) (o : ℕ) (b : List Bool) → o + length b ≤ length m → overlay (length p + o) b (p ++ (m ++ q)) ≡ p ++ (overlay o b m ++ q)
overlay-within p m q o b h =
    ap₂ (λ (x y : List Bool). x ++ b ++ y)
    (take-append-add p (m ++ q) o ∙ ap (λ (x : List Bool). p ++ x) (take-append-le o m q (omega arith)))
    (ap (λ (n : ℕ). drop n (p ++ (m ++ q))) (add_assoc (length p) o (length b)) ∙ drop-append-add p (m ++ q) (o + length b) ∙ drop-append-le (o + length b) m q h)
    ∙ simp append_assoc

-- an overlay that begins where the last one ended
pub overlay-append : (a : ℕ) (b c l : List Bool) → a + length b ≤ length l → overlay (a + length b) c (overlay a b l) ≡ overlay a (b ++ c) l
overlay-append a b c l h =
    let n : length (take a l ++ b) ≡ a + length b = length-append (take a l) b ∙ ap (λ (m : ℕ). m + length b) (length-take-le a l (omega arith)) in
    ap₂ (λ (x y : List Bool). x ++ c ++ y)
    (take_at (take a l ++ b) (drop (a + length b) l) (a + length b) n)
    (sym (drop-drop (length c) (a + length b) (overlay a b l))
    ∙ ap (drop (length c)) (drop_at (take a l ++ b) (drop (a + length b) l) (a + length b) n)
    ∙ drop-drop (length c) (a + length b) l)
    ∙ ap₂ (λ (x : List Bool) (m : ℕ). x ++ drop m l) (append_assoc (take a l) b c) (add_assoc a (length b) (length c) ∙ ap (λ (m : ℕ). a + m) (sym (length-append b c)))

pub overlay-none : (a : ℕ) (l : List Bool) → overlay a [] l ≡ l
overlay-none a l = ap₂ (λ (x : List Bool) (n : ℕ). x ++ drop n l) (append-nil (take a l)) (add-zero a) ∙ take-append-drop a l
