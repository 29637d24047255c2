-- The fields of a word are in their ranges.
use Prim.Native.Nat.{ℕ, ◌<◌, ◌^◌}
use mathlib.Core.Path.{◌≡◌, refl, sym, ap, ap₂, ◌∙◌}
use mathlib.Core.Bool.{Bool, true, false, ◌&&◌}
use native.Mathlib.Omega.{arith}
use lib.Dec.{leb, ltb}
use borrow.Author.Tests.{leb-false, ltb-true, lt-ltb}
use Rattle.std.specs.Prelude.{Ok}
use Rattle.bits.specs.Bits.{val}
use Rattle.bits.specs.Fields.{fits, pack}
use Rattle.bits.proofs.Choice.{and_left, and_right, chosen}
use Rattle.word.specs.declared.Head.{Head}
use Rattle.word.specs.declared.Word.{Word}
use Rattle.word.specs.declared.Word.TheVariants.{First, Later, Beyond}
use Rattle.word.specs.Format.{limit, head_part, head_format, later_format}
use Rattle.word.specs.Kind.{kind_of}
use Rattle.word.specs.Compose.{composed, number_if, head_values, first_values, later_values, is_index}
use Rattle.word.proofs.Inverse.{parse-compose, compose-parse}
use Rattle.word.proofs.Index.{index_fits}

-- a number that is composed passed its test
tested : (t : Bool) (m n : ℕ) → number_if t m ≡ Ok n → t ≡ true
tested true m n e = refl
tested false m n e = cc

-- a word of kind w composes again
recomposed : (n : ℕ) (w : Word) → kind_of n ≡ w → (w ≡ Beyond n → ⊥) → composed w ≡ Ok n
unfolding kind_of
recomposed n w e other = by_size (leb limit n) refl
  where
    by_size : (b : Bool) → leb limit n ≡ b → composed w ≡ Ok n
    by_size false l = ap composed (sym e) ∙ parse-compose n (leb-false limit n l)
    by_size true l = absurd (other (sym e ∙ rw l))

module _ (n : ℕ) {ci : ℕ} {head : Head} (e : kind_of n ≡ First ci head) where
  first_tests : is_index ci && fits head_format (first_values ci head) ≡ true
  unfolding composed
  first_tests = tested _ _ n (recomposed n (First ci head) e (λ b. let z : ◌≡◌ {A = ℕ} 0 1 = cc in omega arith))

  pub first_index : is_index ci ≡ true
  first_index = and_left (is_index ci) (fits head_format (first_values ci head)) first_tests

  pub first_fits : fits head_format (first_values ci head) ≡ true
  first_fits = and_right (is_index ci) (fits head_format (first_values ci head)) first_tests

module _ (n : ℕ) {ci second gsi c : ℕ} (e : kind_of n ≡ Later ci second gsi c) where
  later_tests : is_index ci && fits later_format (later_values ci second gsi c) ≡ true
  unfolding composed
  later_tests = tested _ _ n (recomposed n (Later ci second gsi c) e (λ b. let z : ◌≡◌ {A = ℕ} 0 1 = cc in omega arith))

  pub later_index : is_index ci ≡ true
  later_index = and_left (is_index ci) (fits later_format (later_values ci second gsi c)) later_tests

  pub later-fits : fits later_format (later_values ci second gsi c) ≡ true
  later-fits = and_right (is_index ci) (fits later_format (later_values ci second gsi c)) later_tests

  pub later_range : (gsi < 4) × (ltb c (2 ^ 28) ≡ true)
  unfolding fits
  later_range =
      let behind-mark = and_right (ltb second 2) (ltb gsi 4 && (ltb c (2 ^ 28) && true)) (and_right (ltb ci 8) (ltb second 2 && (ltb gsi 4 && (ltb c (2 ^ 28) && true))) later-fits) in
      (ltb-true gsi 4 (and_left (ltb gsi 4) (ltb c (2 ^ 28) && true) behind-mark), and_left (ltb c (2 ^ 28)) true (and_right (ltb gsi 4) (ltb c (2 ^ 28) && true) behind-mark))

-- every first and later group with its fields in range is a word
pub first_word : (ci : ℕ) (head : Head) → is_index ci ≡ true → fits head_part (head_values head) ≡ true → (n : ℕ) × (kind_of n ≡ First ci head)
unfolding composed fits
first_word ci head i h =
    let n = val (pack head_format (first_values ci head)) in
    (n, compose-parse (First ci head) n (chosen _ _ _ (index_fits ci (fits head_part (head_values head)) ∙ ap₂ ◌&&◌ i h)))

pub later-word : (ci second gsi c : ℕ) → is_index ci ≡ true → second < 2 → gsi < 4 → ltb c (2 ^ 28) ≡ true → (n : ℕ) × (kind_of n ≡ Later ci second gsi c)
unfolding composed fits
later-word ci second gsi c i s g h =
    let n = val (pack later_format (later_values ci second gsi c)) in
    (n, compose-parse (Later ci second gsi c) n (chosen _ _ _ (index_fits ci _ ∙ rw (i, lt-ltb second 2 s, lt-ltb gsi 4 g, h))))
