-- The laws of `flat` and `words`: numbers of one width.
use Prim.Native.Nat.{ℕ, zero, suc, ◌+◌, ◌*◌, ◌^◌, ◌<◌, ◌≤◌}
use native.Mathlib.Nat.{suc-mul, zero-mul, add_comm}
use native.Mathlib.Omega.{arith}
use mathlib.Core.Path.{◌≡◌, refl, sym, ap, ap₂, ◌∙◌}
use mathlib.Core.Bool.{Bool}
use mathlib.Core.List.{List, [], ◌∷◌, ◌++◌, append_assoc, append-nil}
use lib.ListN.{length, take, drop, get_or, length-append, take-append-drop, length-drop}
use lib.Seq.{take_at, drop_at, drop-drop, length-take-le}
use Rattle.bits.specs.Bits.{bits, val}
use Rattle.bits.specs.Fields.{flat, words}
use Rattle.bits.proofs.Value.{length-bits, val-bits_lt, bits-val}

pub length-flat : (w : ℕ) (xs : List ℕ) → length (flat w xs) ≡ length xs * w
unfolding flat
length-flat w [] = sym (zero-mul w)
length-flat w (x ∷ xs) = length-append (bits w x) (flat w xs) ∙ ap₂ (λ (n m : ℕ). n + m) (length-bits w x) (length-flat w xs) ∙ add_comm w (length xs * w) ∙ sym (suc-mul (length xs) w)

pub flat_one : (w x : ℕ) → flat w (x ∷ []) ≡ bits w x
unfolding flat
flat_one w x = append-nil (bits w x)

pub flat_append : (w : ℕ) (xs ys : List ℕ) → flat w (xs ++ ys) ≡ flat w xs ++ flat w ys
unfolding flat
flat_append w [] ys = refl
flat_append w (x ∷ xs) ys = ap (λ (l : List Bool). bits w x ++ l) (flat_append w xs ys) ∙ sym (append_assoc (bits w x) (flat w xs) (flat w ys))

-- the first n numbers take n * w bits
pub take-flat : (w n : ℕ) (xs : List ℕ) → n ≤ length xs → take (n * w) (flat w xs) ≡ flat w (take n xs)
take-flat w n xs h =
    ap (λ (l : List ℕ). take (n * w) (flat w l)) (sym (take-append-drop n xs))
    ∙ ap (λ (l : List Bool). take (n * w) l) (flat_append w (take n xs) (drop n xs))
    ∙ take_at (flat w (take n xs)) (flat w (drop n xs)) (n * w) (length-flat w (take n xs) ∙ ap (λ (m : ℕ). m * w) (length-take-le n xs h))

pub drop-flat : (w n : ℕ) (xs : List ℕ) → n ≤ length xs → drop (n * w) (flat w xs) ≡ flat w (drop n xs)
drop-flat w n xs h =
    ap (λ (l : List ℕ). drop (n * w) (flat w l)) (sym (take-append-drop n xs))
    ∙ ap (λ (l : List Bool). drop (n * w) l) (flat_append w (take n xs) (drop n xs))
    ∙ drop_at (flat w (take n xs)) (flat w (drop n xs)) (n * w) (length-flat w (take n xs) ∙ ap (λ (m : ℕ). m * w) (length-take-le n xs h))

pub length-words : (w n : ℕ) (l : List Bool) → length (words w n l) ≡ n
unfolding words
length-words w zero l = refl
length-words w (suc n) l = ap suc (length-words w n (drop w l))

-- numbers in range come back, whatever follows them
pub words_front : (w : ℕ) (xs : List ℕ) (l : List Bool) → ((i : ℕ) → get_or xs i 0 < 2 ^ w) → words w (length xs) (flat w xs ++ l) ≡ xs
unfolding words flat
words_front w [] l h = refl
words_front w (x ∷ xs) l h =
    let rest = flat w xs ++ l in
    let e : bits w x ++ flat w xs ++ l ≡ bits w x ++ rest = append_assoc (bits w x) (flat w xs) l in
    ap₂ (λ (n : ℕ) (ns : List ℕ). n ∷ ns)
    (ap (λ (m : List Bool). val (take w m)) e ∙ ap val (take_at (bits w x) rest w (length-bits w x)) ∙ val-bits_lt w x (h 0))
    (ap (λ (m : List Bool). words w (length xs) (drop w m)) e
    ∙ ap (words w (length xs)) (drop_at (bits w x) rest w (length-bits w x))
    ∙ words_front w xs l (λ i. h (suc i)))

words-flat : (w : ℕ) (xs : List ℕ) → ((i : ℕ) → get_or xs i 0 < 2 ^ w) → words w (length xs) (flat w xs) ≡ xs
words-flat w xs h = ap (words w (length xs)) (sym (append-nil (flat w xs))) ∙ words_front w xs [] h

-- bits come back if there are n numbers of them
pub flat-words : (w n : ℕ) (l : List Bool) → length l ≡ n * w → flat w (words w n l) ≡ l
unfolding words flat
flat-words w zero [] e = refl
flat-words w zero (b ∷ l) e = absurd (omega (arith, zero-mul w))
flat-words w (suc n) l e =
    let m : w ≤ length l = omega (arith, suc-mul n w) in
    let e' : length (drop w l) ≡ n * w = omega (arith, suc-mul n w, length-drop w l) in
    ap₂ (λ (a b : List Bool). a ++ b) (bits-val (take w l) w (length-take-le w l m)) (flat-words w n (drop w l) e') ∙ take-append-drop w l

-- one number more
pub words_snoc : (w n : ℕ) (l : List Bool) → words w (suc n) l ≡ words w n l ++ (val (take w (drop (n * w) l)) ∷ [])
unfolding words
words_snoc w zero l = ap (λ (m : ℕ). val (take w (drop m l)) ∷ []) (sym (zero-mul w))
words_snoc w (suc n) l = ap (λ (ns : List ℕ). val (take w l) ∷ ns) (words_snoc w n (drop w l) ∙ ap (λ (m : List Bool). words w n (drop w l) ++ (val (take w m) ∷ [])) (drop-drop (n * w) w l ∙ ap (λ (m : ℕ). drop m l) (add_comm w (n * w) ∙ sym (suc-mul n w))))

-- numbers in range are known by their bits
pub words_of : (w : ℕ) (xs : List ℕ) (l : List Bool) → ((i : ℕ) → get_or xs i 0 < 2 ^ w) → flat w xs ≡ l → xs ≡ words w (length xs) l
words_of w xs l h e = sym (words-flat w xs h) ∙ ap (words w (length xs)) e
