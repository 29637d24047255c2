-- The laws of a block: its payload and check word come back, and what the calls do to its last two bytes.
use Prim.Native.Nat.{ℕ, ◌+◌, ◌-◌, ◌*◌, ◌≤◌, ◌<◌}
use native.Mathlib.Omega.{arith}
use mathlib.Core.Path.{◌≡◌, sym, ap, ap₂, ◌∙◌}
use mathlib.Core.Bool.{Bool, true, false, ◌&&◌}
use mathlib.Core.List.{List, [], ◌++◌, append-nil}
use lib.ListN.{length, take, drop, length-append, length-drop, drop_of_length-le}
use lib.Seq.{take_at, drop_at, length-take-le, take_all}
use lib.Dec.{eqb}
use borrow.Author.Tests.{eq-eqb, le-leb, lt-leb}
use borrow.Rule.Slice.PartMut.{put_mid}
use Rattle.bits.specs.Bits.{bits, val}
use Rattle.bits.specs.Fields.{flat, words}
use Rattle.bits.proofs.Choice.{chosen, passed_over}
use Rattle.bits.proofs.Value.{length-bits, val-bits_lt}
use Rattle.bits.proofs.Fields.{length-words, flat-words}
use Rattle.crc.specs.Register.{check_word}
use Rattle.crc.specs.Block.{payload, check_in, is_checked, checked, with_check}
use Rattle.crc.proofs.Width.{check_lt}

pub length-payload : (s : List ℕ) → length (payload s) ≡ length s - 2
length-payload s = length-take-le (length s - 2) s (omega arith)

-- some bytes with their check word are a block, and their payload
module _ (p : List ℕ) where
  abbrev two : List ℕ
  two = words 8 2 (bits 16 (check_word p))

  pub length-checked : length (checked p) ≡ length p + 2
  length-checked = length-append p two ∙ ap (λ (n : ℕ). length p + n) (length-words 8 2 (bits 16 (check_word p)))

  end : length (checked p) - 2 ≡ length p
  end = omega (arith, length-checked)

  pub payload-checked : payload (checked p) ≡ p
  payload-checked = take_at p two (length (checked p) - 2) (sym end)

  check_back : check_in (checked p) ≡ check_word p
  check_back =
      ap (λ (l : List ℕ). val (flat 8 l)) (drop_at p two (length (checked p) - 2) (sym end))
      ∙ ap val (flat-words 8 2 (bits 16 (check_word p)) (length-bits 16 (check_word p)))
      ∙ val-bits_lt 16 (check_word p) (check_lt p)

  pub checked_holds : is_checked (checked p) ≡ true
  unfolding is_checked
  checked_holds =
      ap₂ (λ (a b : Bool). a && b)
      (le-leb 2 (length (checked p)) (omega (arith, length-checked)))
      (eq-eqb (check_in (checked p)) (check_word (payload (checked p))) (check_back ∙ ap check_word (sym payload-checked)))

-- bytes that are too few
pub no_block : (s : List ℕ) → length s < 2 → (is_checked s ≡ false) × (with_check s ≡ s)
unfolding is_checked with_check
no_block s h =
    let few = lt-leb 2 (length s) h in
    (ap (λ (t : Bool). t && eqb (check_in s) (check_word (payload s))) few, passed_over _ _ _ few)

module _ (s : List ℕ) (enough : 2 ≤ length s) where
  -- n is read from the last bytes, m is worked out
  pub tested : (n m : ℕ) → n ≡ val (flat 8 (take (length s - (length s - 2)) (drop (length s - 2) s))) → m ≡ check_word (payload s) → eqb n m ≡ is_checked s
  unfolding is_checked
  tested n m en em =
      let last = take_all (length s - (length s - 2)) (drop (length s - 2) s) (omega (arith, length-drop (length s - 2) s)) in
      ap₂ eqb (en ∙ ap (λ (l : List ℕ). val (flat 8 l)) last) em
      ∙ sym (ap (λ (t : Bool). t && eqb (check_in s) (check_word (payload s))) (le-leb 2 (length s) enough))

  -- ys are put in place of the last two bytes
  abbrev part : List ℕ
  part = take (length s - (length s - 2)) (drop (length s - 2) s)

  two_cells : length part ≡ 2
  two_cells = length-take-le (length s - (length s - 2)) (drop (length s - 2) s) (omega (arith, length-drop (length s - 2) s)) ∙ omega arith

  pub put-behind : (v : ℕ) (ys : List ℕ) → v ≡ check_word (payload s) → ys ≡ words 8 (length part) (bits (length part * 8) v)
      → put_mid (length s - 2) (length s - (length s - 2)) s ys ≡ with_check s
  unfolding with_check
  put-behind v ys ev ey =
      let past : length (drop (length s - 2) s) ≤ length s - (length s - 2) = omega (arith, length-drop (length s - 2) s) in
      let none : drop (length s - (length s - 2)) (drop (length s - 2) s) ≡ [] = drop_of_length-le (drop (length s - 2) s) past in
      ap (λ (b : List ℕ). payload s ++ (ys ++ b)) none
      ∙ ap (λ (a : List ℕ). payload s ++ a) (append-nil ys ∙ ey ∙ ap₂ (λ (n m : ℕ). words 8 n (bits (n * 8) m)) two_cells ev)
      ∙ sym (chosen _ _ _ (le-leb 2 (length s) enough))

-- p was put before the last two bytes of s
pub check-behind : (p s : List ℕ) → 2 ≤ length s → length p ≡ length s - 2 → with_check (p ++ drop (length s - 2) s) ≡ checked p
unfolding with_check
check-behind p s enough e =
    let rest = drop (length s - 2) s in
    let size : length (p ++ rest) ≡ length s = length-append p rest ∙ omega (arith, e, length-drop (length s - 2) s) in
    chosen _ _ _ (le-leb 2 (length (p ++ rest)) (omega (arith, size))) ∙ ap checked (take_at p rest (length (p ++ rest) - 2) (omega (arith, size, e)))
