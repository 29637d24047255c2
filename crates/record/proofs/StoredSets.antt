-- The set of a record: stored, and read back.
use Prim.Native.Nat.{ℕ, ◌+◌, ◌-◌, ◌/◌, ◌%◌, ◌^◌, ◌≤◌, ◌<◌}
use native.Mathlib.Omega.{arith}
use mathlib.Core.Path.{◌≡◌, refl, sym, ap, ap₂, ◌∙◌}
use mathlib.Core.Bool.{true}
use mathlib.Core.List.{List, [], ◌∷◌, ◌++◌, append-nil}
use lib.ListN.{length, take, drop, get_or, replicate, length-append, length-drop, drop_of_length-le}
use lib.Seq.{length-take-le, get_or-append-add}
use borrow.Rule.Slice.PartMut.{put_mid}
use borrow.Author.Tests.{eq-eqb, ne_eqb}
use Rattle.std.specs.Int.{w64, to_le_bytes}
use Rattle.bits.proofs.Choice.{chosen, passed_over}
use Rattle.record.specs.Layout.{record_size, four_at, four_bytes, eight_bytes, set_at, set_in, with_set}
use Rattle.record.specs.WellFormed.{within}
use Rattle.record.proofs.Ranges.{within-next}

-- the eight bytes of a number, as the library has them
cons : {a b : ℕ} {x y : List ℕ} → a ≡ b → x ≡ y → a ∷ x ≡ b ∷ y
cons e f = ap₂ (λ (n : ℕ) (l : List ℕ). n ∷ l) e f

eight_le : (n : ℕ) → n < 2 ^ 64 → to_le_bytes w64 n ≡ eight_bytes n
eight_le n small = cons (omega arith) (cons (omega arith) (cons (omega arith) (cons (omega arith) (cons (omega arith) (cons (omega arith) (cons (omega arith) (cons (omega arith) refl)))))))

module _ (set : ℕ) (r : List ℕ) where
  pub set-put : length r ≡ record_size → with_set set r ≡ take set_at r ++ eight_bytes set
  unfolding with_set
  set-put long = chosen _ _ _ (eq-eqb (length r) record_size long)

  pub set_left : (length r ≡ record_size → ⊥) → with_set set r ≡ r
  unfolding with_set
  set_left other = passed_over _ _ _ (ne_eqb (length r) record_size other)

  -- its bytes stored at the end
  pub bytes-put : (l : List ℕ) → l ≡ to_le_bytes w64 set → set < 2 ^ 64 → length r ≡ record_size → put_mid set_at (length r - set_at) r l ≡ with_set set r
  bytes-put l e small long =
      let none : length (drop set_at r) ≤ length r - set_at = omega (arith, length-drop set_at r) in
      ap₂ (λ (b d : List ℕ). take set_at r ++ (b ++ d)) (e ∙ eight_le set small) (drop_of_length-le (drop set_at r) none)
      ∙ ap (λ (b : List ℕ). take set_at r ++ b) (append-nil (eight_bytes set))
      ∙ sym (set-put long)

  pub length-put : length r ≡ record_size → length (with_set set r) ≡ record_size
  length-put long = ap length (set-put long) ∙ length-append (take set_at r) (eight_bytes set) ∙ omega (arith, length-take-le set_at r (omega arith))

-- a number in eight bytes after others
pub eight_back : (front : List ℕ) (n : ℕ) → length front ≡ set_at → n < 2 ^ 64 → set_in (front ++ eight_bytes n) ≡ n
eight_back front n long small = let low : four_at (front ++ eight_bytes n) set_at ≡ n % 0x1_0000_0000 = omega (arith, at 0, at 1, at 2, at 3) in omega (arith, low, high)
  where
    at : (j : ℕ) → get_or (front ++ eight_bytes n) (set_at + j) 0 ≡ get_or (eight_bytes n) j 0
    at j = ap (λ (k : ℕ). get_or (front ++ eight_bytes n) (k + j) 0) (sym long) ∙ get_or-append-add front (eight_bytes n) j 0

    high : four_at (front ++ eight_bytes n) (set_at + 4) ≡ n / 0x1_0000_0000
    high = omega (arith, at 4, at 5, at 6, at 7)

pub set_back : (set : ℕ) (r : List ℕ) → length r ≡ record_size → set < 2 ^ 64 → set_in (with_set set r) ≡ set
set_back set r long small = ap set_in (set-put set r long) ∙ eight_back (take set_at r) set (length-take-le set_at r (omega arith)) small

-- each of its bytes is in its range
pub eight-within : (n : ℕ) → n < 2 ^ 64 → within (replicate 8 8) (eight_bytes n) ≡ true
unfolding within
eight-within n small =
    let l = n % 0x1_0000_0000 in
    let h = n / 0x1_0000_0000 in
    let more : (x : ℕ) (ws xs : List ℕ) → x < 256 → within ws xs ≡ true → within (8 ∷ ws) (x ∷ xs) ≡ true = within-next 8 in
    more (l % 256) (replicate 7 8) (l / 0x100 % 256 ∷ l / 0x1_0000 % 256 ∷ l / 0x100_0000 ∷ four_bytes h) (omega arith)
    (more (l / 0x100 % 256) (replicate 6 8) (l / 0x1_0000 % 256 ∷ l / 0x100_0000 ∷ four_bytes h) (omega arith)
    (more (l / 0x1_0000 % 256) (replicate 5 8) (l / 0x100_0000 ∷ four_bytes h) (omega arith)
    (more (l / 0x100_0000) (replicate 4 8) (four_bytes h) (omega arith)
    (more (h % 256) (replicate 3 8) (h / 0x100 % 256 ∷ h / 0x1_0000 % 256 ∷ h / 0x100_0000 ∷ []) (omega arith)
    (more (h / 0x100 % 256) (replicate 2 8) (h / 0x1_0000 % 256 ∷ h / 0x100_0000 ∷ []) (omega arith)
    (more (h / 0x1_0000 % 256) (replicate 1 8) (h / 0x100_0000 ∷ []) (omega arith)
    (more (h / 0x100_0000) [] [] (omega arith) refl)))))))
