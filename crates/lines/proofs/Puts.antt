-- Texts put one after the other are one text.
use Prim.Native.Nat.{ℕ, ◌+◌, ◌≤◌, ◌<◌}
use native.Mathlib.Nat.{add-zero, add_assoc}
use native.Mathlib.Numerals.{add-one}
use native.Mathlib.Omega.{arith}
use mathlib.Core.Path.{◌≡◌, refl, sym, ap, ap₂, subst, ◌∙◌}
use mathlib.Core.List.{List, [], ◌∷◌, ◌++◌, append_assoc, append-nil}
use lib.ListN.{length, take, drop, set, length-append, take-append-drop}
use lib.Seq.{take_at, drop_at, drop-drop, length-take-le, set_split, append_snoc}
use Rattle.lines.specs.Text.{put, Put}

put-none : (a : ℕ) (l : List ℕ) → put a [] l ≡ l
unfolding put
put-none a l = ap₂ (λ (x : List ℕ) (n : ℕ). x ++ drop n l) (append-nil (take a l)) (add-zero a) ∙ take-append-drop a l

-- one byte is a store
pub put_one : (a b : ℕ) (l : List ℕ) → a < length l → set l a b ≡ put a (b ∷ []) l
unfolding put
put_one a b l h = set_split l a b h ∙ ap (λ (n : ℕ). take a l ++ b ∷ drop n l) (sym (add-one a)) ∙ sym (append_snoc (take a l) b (drop (a + 1) l))

-- a text that begins where the last one ended
pub put-append : (a : ℕ) (t u l : List ℕ) → a ≤ length l → put (a + length t) u (put a t l) ≡ put a (t ++ u) l
unfolding put
put-append a t u l h =
    let n : length (take a l ++ t) ≡ a + length t = length-append (take a l) t ∙ ap (λ (m : ℕ). m + length t) (length-take-le a l h) in
    ap₂ (λ (x y : List ℕ). x ++ u ++ y)
    (take_at (take a l ++ t) (drop (a + length t) l) (a + length t) n)
    (sym (drop-drop (length u) (a + length t) (put a t l))
    ∙ ap (drop (length u)) (drop_at (take a l ++ t) (drop (a + length t) l) (a + length t) n)
    ∙ drop-drop (length u) (a + length t) l)
    ∙ ap₂ (λ (x : List ℕ) (m : ℕ). x ++ drop m l) (append_assoc (take a l) t u) (add_assoc a (length t) (length u) ∙ ap (λ (m : ℕ). a + m) (sym (length-append t u)))

-- the same text in other words
pub put_as : (a : ℕ) {t u : List ℕ} (l : List ℕ) (e : ℕ) (m : List ℕ) → t ≡ u → Put a t l e m → Put a u l e m
put_as a l e m same p = subst (λ (x : List ℕ). Put a x l e m) same p

-- one text and then another
pub put_then : (a : ℕ) (t u l : List ℕ) {e f : ℕ} {m n : List ℕ} → a ≤ length l → Put a t l e m → Put e u m f n → Put a (t ++ u) l f n
put_then a t u l h p q = (
  q.0 ∙ ap (λ (x : ℕ). x + length u) p.0 ∙ add_assoc a (length t) (length u) ∙ ap (λ (x : ℕ). a + x) (sym (length-append t u)),
  q.1 ∙ ap₂ (λ (x : ℕ) (y : List ℕ). put x u y) p.0 p.1 ∙ put-append a t u l h,
)

-- no text
pub put_nothing : (a : ℕ) (l : List ℕ) → Put a [] l a l
put_nothing a l = (sym (add-zero a), sym (put-none a l))
