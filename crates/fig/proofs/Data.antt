-- The words and the padding of some data bytes.
use Prim.Native.Nat.{ℕ, ◌+◌, ◌*◌, ◌%◌, ◌≤◌}
use native.Mathlib.Nat.{div-add-mod', mul-le-mul_left}
use native.Mathlib.Omega.{arith}
use mathlib.Core.Path.{◌≡◌, sym, ap, ◌∙◌}
use mathlib.Core.Bool.{Bool, true, false, cond}
use mathlib.Core.List.{List}
use lib.ListN.{length, take, length-drop}
use lib.Seq.{take_all, length-take-le}
use lib.Dec.{leb, eqb, lit≤}
use borrow.Author.Tests.{leb-true, le-leb}
use Rattle.std.specs.Prelude.{Ok}
use Rattle.refusal.specs.declared.Refusal.TheVariants.{WrongLength, Reserved, SmallBuffer}
use Rattle.refusal.specs.Checks.{must}
use Rattle.refusal.proofs.Checks.{passed}
use Rattle.bits.specs.Bits.{all_zero}
use Rattle.bits.specs.Fields.{flat}
use Rattle.bits.specs.Overlay.{stretch}
use Rattle.bits.proofs.Choice.{chosen, and_left}
use Rattle.bits.proofs.Fields.{length-flat}
use Rattle.fig.specs.Format.{word_width}
use Rattle.fig.specs.Read.{count_of, padding, length_fits, check_data}

module _ (w : ℕ) (bytes : List ℕ) where
  -- the words and the padding are all of the bytes
  pub all_bits : count_of w bytes * w + length bytes * 8 % w ≡ length bytes * 8
  all_bits = div-add-mod' (length bytes * 8) w

  padding-length : length (padding w bytes) ≡ length bytes * 8 % w
  padding-length = omega (arith, length-drop (count_of w bytes * w) (flat 8 bytes), length-flat 8 bytes, div-add-mod' (length bytes * 8) w)

  -- the padding is the last bits
  pub padding-stretch : stretch (count_of w bytes * w) (length bytes * 8 % w) (flat 8 bytes) ≡ padding w bytes
  padding-stretch = take_all (length bytes * 8 % w) (padding w bytes) (omega (arith, padding-length))

  -- the checks as the code makes them
  pub checks : (room : ℕ) → check_data w bytes room ≡
      must (length_fits w (length bytes)) WrongLength
      (must (all_zero (stretch (count_of w bytes * w) (length bytes * 8 % w) (flat 8 bytes))) Reserved
      (must (leb (count_of w bytes) room) SmallBuffer
      (Ok tt)))
  unfolding check_data
  checks room = ap (λ (l : List Bool). must (length_fits w (length bytes)) WrongLength (must (all_zero l) Reserved (must (leb (count_of w bytes) room) SmallBuffer (Ok tt)))) (sym padding-stretch)

-- the checks of the data, where none refuses
three : (w : ℕ) (bytes : List ℕ) (n : ℕ) → check_data w bytes n ≡ Ok tt → (length_fits w (length bytes) ≡ true) × (all_zero (padding w bytes) ≡ true) × (leb (count_of w bytes) n ≡ true)
unfolding check_data
three w bytes n e =
    let p = passed (length_fits w (length bytes)) _ _ tt e in
    let q = passed (all_zero (padding w bytes)) _ _ tt p.1 in
    (p.0, q.0, (passed (leb (count_of w bytes) n) _ _ tt q.1).0)

-- data that is not refused has a word
pub some_word : (w : ℕ) (bytes : List ℕ) (n : ℕ) → check_data w bytes n ≡ Ok tt → 1 ≤ count_of w bytes
some_word w bytes n e = leb-true 1 (count_of w bytes) (and_left (leb 1 (count_of w bytes)) (leb (length bytes * 8 % w) 7) (three w bytes n e).0)

-- and room
pub room : (w : ℕ) (bytes : List ℕ) (n : ℕ) → check_data w bytes n ≡ Ok tt → count_of w bytes ≤ n
room w bytes n e = leb-true (count_of w bytes) n (three w bytes n e).2

-- so that the cells lent are as many as the words
pub lent : (w : ℕ) (bytes out : List ℕ) → check_data w bytes (length out) ≡ Ok tt → length (take (count_of w bytes) out) ≡ count_of w bytes
lent w bytes out e = length-take-le (count_of w bytes) out (room w bytes (length out) e)

-- and it is not refused with any other room for its words
pub any_room : (w : ℕ) (bytes : List ℕ) (n m : ℕ) → check_data w bytes n ≡ Ok tt → count_of w bytes ≤ m → check_data w bytes m ≡ Ok tt
unfolding check_data
any_room w bytes n m e h =
    let t = three w bytes n e in
    chosen _ _ _ t.0 ∙ chosen _ _ _ t.1 ∙ chosen _ _ _ (le-leb (count_of w bytes) m h)

-- a word has 16 bits or more, and 37 or fewer
either : (t : Bool) → (16 ≤ cond t 37 16) × (cond t 37 16 ≤ 37)
either true = (lit≤ tt, lit≤ tt)
either false = (lit≤ tt, lit≤ tt)

pub width_bounds : (d1 : ℕ) → (16 ≤ word_width d1) × (word_width d1 ≤ 37)
unfolding word_width
width_bounds d1 = either (eqb d1 0)

-- a word takes two bytes or more
pub two_bytes : (d1 : ℕ) (bytes : List ℕ) → count_of (word_width d1) bytes * 2 ≤ length bytes
two_bytes d1 bytes =
    let w = word_width d1 in
    omega (arith, mul-le-mul_left (count_of w bytes) (width_bounds d1).0, all_bits w bytes)
