-- The user words and the padding.
use Prim.Native.Nat.{ℕ, zero, suc, ◌+◌, ◌-◌, ◌*◌, ◌/◌, ◌%◌, ◌<◌, ◌≤◌}
use native.Mathlib.Nat.{div-add-mod', suc-mul, zero-mul, add_comm}
use native.Mathlib.Omega.{arith}
use mathlib.Core.Path.{◌≡◌, refl, sym, ap, ◌∙◌}
use mathlib.Core.Bool.{Bool}
use mathlib.Core.List.{List}
use lib.ListN.{length, get_or, take, drop, length-drop}
use lib.Seq.{take_all, drop-drop}
use lib.Dec.{leb}
use borrow.Author.Tests.{leb-true}
use Rattle.bits.specs.Bits.{val, all_zero}
use Rattle.bits.specs.Fields.{flat, words}
use Rattle.bits.specs.Overlay.{stretch}
use Rattle.refusal.specs.Checks.{must}
use Rattle.bits.proofs.Fields.{length-flat}
use Rattle.refusal.proofs.Checks.{passed}
use Rattle.drm.specs.Payload.{count_from, padding}
use Rattle.drm.specs.Read.{test_words}
use Rattle.std.specs.Prelude.{Ok}
use Rattle.refusal.specs.declared.Refusal.TheVariants.{WrongLength, Reserved, SmallBuffer}

-- word i of a run, and 0 after its last
pub word_in : (w m i : ℕ) (l : List Bool) → i < m → get_or (words w m l) i 0 ≡ val (stretch (i * w) w l)
unfolding words
word_in w zero i l h = absurd (omega arith)
word_in w (suc m) zero l h = ap (λ (n : ℕ). val (stretch n w l)) (sym (zero-mul w))
word_in w (suc m) (suc i) l h =
    word_in w m i (drop w l) (omega arith) ∙ ap (λ (x : List Bool). val (take w x)) (drop-drop (i * w) w l ∙ ap (λ (n : ℕ). drop n l) (add_comm w (i * w) ∙ sym (suc-mul i w)))

-- the same from bit a on
pub word_at : (a m i : ℕ) (l : List Bool) → i < m → get_or (words 16 m (drop a l)) i 0 ≡ val (stretch (a + i * 16) 16 l)
word_at a m i l h = word_in 16 m i (drop a l) h ∙ ap (λ (x : List Bool). val (take 16 x)) (drop-drop (i * 16) a l)

pub word-past : (w m i : ℕ) (l : List Bool) → m ≤ i → get_or (words w m l) i 0 ≡ 0
unfolding words
word-past w zero i l h = refl
word-past w (suc m) zero l h = absurd (omega arith)
word-past w (suc m) (suc i) l h = word-past w m i (drop w l) (omega arith)

module _ (a : ℕ) (l : List Bool) (inside : a ≤ length l) where
  -- the words and the bits left over are all of the bits from a on
  pub all-bits : a + count_from a l * 37 + (length l - a) % 37 ≡ length l
  all-bits = omega (arith, div-add-mod' (length l - a) 37)

  -- the padding is the last bits
  pub padding-stretch : stretch (length l - (length l - a) % 37) ((length l - a) % 37) l ≡ padding a l
  padding-stretch =
      let from : length l - (length l - a) % 37 ≡ a + count_from a l * 37 = omega (arith, all-bits) in
      ap (λ (n : ℕ). stretch n ((length l - a) % 37) l) from
      ∙ take_all ((length l - a) % 37) (padding a l) (omega (arith, length-drop (a + count_from a l * 37) l, all-bits))

-- the tests as the code makes them, by the bytes
pub tests : (a : ℕ) (p : List ℕ) (room : ℕ) → test_words a (flat 8 p) room ≡
    must (leb a (length p * 8)) WrongLength
    (must (leb ((length p * 8 - a) % 37) 7) WrongLength
    (must (all_zero (padding a (flat 8 p))) Reserved
    (must (leb ((length p * 8 - a) / 37) room) SmallBuffer
    (Ok tt))))
unfolding test_words
tests a p room = simp (length-flat 8 p)

pub zeros : (a : ℕ) (p : List ℕ) → a ≤ length p * 8
    → all_zero (padding a (flat 8 p)) ≡ all_zero (stretch (length p * 8 - (length p * 8 - a) % 37) ((length p * 8 - a) % 37) (flat 8 p))
zeros a p h =
    sym (ap (λ (n : ℕ). all_zero (stretch (n - (n - a) % 37) ((n - a) % 37) (flat 8 p))) (sym (length-flat 8 p))
    ∙ ap all_zero (padding-stretch a (flat 8 p) (omega (arith, length-flat 8 p))))

-- words that pass lie within the bits, there is room for them, and at most 7 bits are left over
pub words-fit : (a : ℕ) (l : List Bool) (room : ℕ) → test_words a l room ≡ Ok tt → (a ≤ length l) × (count_from a l ≤ room) × ((length l - a) % 37 ≤ 7)
unfolding test_words
words-fit a l room e =
    let p = passed (leb a (length l)) WrongLength _ tt e in
    let q = passed (leb ((length l - a) % 37) 7) WrongLength _ tt p.1 in
    let r = passed (all_zero (padding a l)) Reserved _ tt q.1 in (
      leb-true a (length l) p.0,
      leb-true (count_from a l) room (passed (leb (count_from a l) room) SmallBuffer _ tt r.1).0,
      leb-true ((length l - a) % 37) 7 q.0,
    )
