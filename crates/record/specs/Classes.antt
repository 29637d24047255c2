-- Update classes that two reports share, and a set of classes as a number (ISO 14819-1, clause 6.4; document 02, R-4 and R-5).
use Rattle.std.specs.Prelude.{ℕ, ◌%◌, ◌^◌, Bool, false, not, ◌&&◌, ◌||◌, List, [], ◌∷◌, eqb}
use Rattle.std.specs.Int.Bits.{bit_and, bit_or}

-- a test holds of one of them
unfoldable pub any_of : (ℕ → Bool) → List ℕ → Bool
any_of p [] = false
any_of p (x ∷ xs) = p x || any_of p xs

-- two lists of classes share one
unfoldable pub share : (xs ys : List ℕ) → Bool
share xs ys = any_of (λ x. any_of (eqb x) ys) xs

-- in a set class c is bit c: a set with one class more
abbrev pub with_class : (set class : ℕ) → ℕ
with_class set class = bit_or set (2 ^ class)

-- the set of these classes
unfoldable pub set_of : List ℕ → ℕ
set_of [] = 0
set_of (c ∷ cs) = with_class (set_of cs) c

-- two sets have a class in common
abbrev pub meet : (x y : ℕ) → Bool
meet x y = not (eqb (bit_and x y) 0)

-- a set that a record may have: there is a class in it, and class 0 is not
abbrev pub set_fits : ℕ → Bool
set_fits set = not (eqb set 0) && eqb (set % 2) 0
