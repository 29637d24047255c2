-- A test by which the examples meet the condition on the messages between two of one index.
use Prim.Native.Nat.{ℕ, zero, suc, ◌≤◌}
use native.Mathlib.Omega.{arith}
use mathlib.Core.Path.{◌≡◌, ap, subst}
use mathlib.Core.Bool.{Bool, true, cond, ◌&&◌, not}
use mathlib.Core.List.{List, [], ◌∷◌, ◌++◌}
use lib.Dec.{eqb}
use lib.ListN.{length}
use borrow.Author.Tests.{eqb-false, not-true}
use Rattle.bits.proofs.Choice.{and_left, and_right}
use Rattle.word.specs.declared.Word.{Word}
use Rattle.word.specs.declared.Word.TheVariants.{Single, First, Later, Tuning, Administration, Index7, Beyond}
use Rattle.word.specs.Kind.{kind_of}
use Rattle.word.specs.Compose.{is_index}
use Rattle.transmission.specs.Message.{Group, Message, OfIndex, begins}
use Rattle.transmission.specs.Transmission.{Spaced}
use Rattle.transmission.proofs.Words.{first_index}

-- the index of a multi-group message, by its first group, and 0 for any other
unfoldable pub index_by : Word → ℕ
index_by (Single duration diversion head) = 0
index_by (First ci head) = ci
index_by (Later ci second gsi content) = 0
index_by (Tuning n) = 0
index_by (Administration n) = 0
index_by (Index7 n) = 0
index_by (Beyond n) = 0

unfoldable pub index_of : List Group → ℕ
index_of [] = 0
index_of (g ∷ gs) = index_by (kind_of g.word)

of_index : {ci : ℕ} {gs : List Group} → OfIndex ci gs → (index_of gs ≡ ci) × (is_index ci ≡ true)
unfolding index_by index_of
of_index (begins {f = f} k) = (ap index_by k, first_index f.word k)

module _ {R : Type 0} where
  -- none of the first k messages is of index ci
  unfoldable pub clear : ℕ → ℕ → List (Message R) → Bool
  clear zero ci sent = true
  clear (suc k) ci [] = true
  clear (suc k) ci (m ∷ sent) = not (eqb (index_of m.groups) ci) && clear k ci sent

  unfoldable pub spaced : ℕ → List (Message R) → Bool
  spaced k [] = true
  spaced k (m ∷ sent) = cond (is_index (index_of m.groups)) (clear k (index_of m.groups) sent) true && spaced k sent

  far : (k ci : ℕ) (between behind : List (Message R)) (b : Message R) → index_of b.groups ≡ ci → clear k ci (between ++ (b ∷ behind)) ≡ true → k ≤ length between
  unfolding clear
  far zero ci between behind b i e = omega arith
  far (suc k) ci [] behind b i e = absurd (eqb-false (index_of b.groups) ci (not-true _ (and_left (not (eqb (index_of b.groups) ci)) (clear k ci behind) e)) i)
  far (suc k) ci (m ∷ between) behind b i e =
      let others = far k ci between behind b i (and_right (not (eqb (index_of m.groups) ci)) (clear k ci (between ++ (b ∷ behind))) e) in
      omega arith

  apart : (k ci : ℕ) (before between behind : List (Message R)) (a b : Message R) → is_index ci ≡ true → index_of a.groups ≡ ci → index_of b.groups ≡ ci
      → spaced k (before ++ (a ∷ (between ++ (b ∷ behind)))) ≡ true → k ≤ length between
  unfolding spaced
  apart k ci [] between behind a b i ia ib e =
      let rest = between ++ (b ∷ behind) in
      far k ci between behind b ib (rw (ia, i) at (and_left (cond (is_index (index_of a.groups)) (clear k (index_of a.groups) rest) true) (spaced k rest) e))
  apart k ci (m ∷ before) between behind a b i ia ib e =
      let rest = before ++ (a ∷ (between ++ (b ∷ behind))) in
      apart k ci before between behind a b i ia ib (and_right (cond (is_index (index_of m.groups)) (clear k (index_of m.groups) rest) true) (spaced k rest) e)

  pub by_test : (k : ℕ) (sent : List (Message R)) → spaced k sent ≡ true → Spaced k sent
  by_test k sent t ci before between behind a b ia ib e = apart k ci before between behind a b (of_index ia).1 (of_index ia).0 (of_index ib).0 (subst (λ (l : List (Message R)). spaced k l ≡ true) e t)
