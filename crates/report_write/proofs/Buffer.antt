-- Words in the first cells of a buffer, or no room for them.
use Prim.Native.Nat.{ℕ, suc, ◌≤◌, ◌<◌}
use mathlib.Core.Path.{◌≡◌, refl, sym, ap}
use mathlib.Core.List.{List, [], ◌∷◌, ◌++◌}
use native.Mathlib.Omega.{arith}
use lib.ListN.{length, drop, set}
use borrow.Rule.Slice.PartMut.{put_mid}
use borrow.Author.Tests.{le-leb, lt-leb}
use Rattle.bits.proofs.Choice.{chosen, passed_over}
use Rattle.std.specs.Prelude.{Ok, Err}
use Rattle.refusal.specs.declared.Refusal.TheVariants.{SmallBuffer}
use Rattle.report_write.specs.Write.{answer_for, buffer_after}

-- a word in the first cell
pub set_first : (out : List ℕ) (x : ℕ) → 1 ≤ length out → set out 0 x ≡ x ∷ drop 1 out
set_first [] x h = absurd (omega arith)
set_first (y ∷ out) x h = refl

-- words in the first two cells, and k words in the cells after them
pub two_and_more : (out : List ℕ) (x y m k : ℕ) (ys : List ℕ) → 2 ≤ length out → m ≡ k → put_mid 2 m (set (set out 0 x) 1 y) ys ≡ (x ∷ y ∷ ys) ++ drop (suc (suc k)) out
two_and_more [] x y m k ys h e = absurd (omega arith)
two_and_more (a ∷ []) x y m k ys h e = absurd (omega arith)
two_and_more (a ∷ b ∷ out) x y m k ys h e = ap (λ (n : ℕ). x ∷ y ∷ (ys ++ drop n out)) e

module _ (ws out : List ℕ) where
  pub with_room : length ws ≤ length out → (Ok (length ws) ≡ answer_for ws (length out)) × (ws ++ drop (length ws) out ≡ buffer_after ws out)
  unfolding answer_for buffer_after
  with_room h = let room = le-leb (length ws) (length out) h in (sym (chosen _ _ _ room), sym (chosen _ _ _ room))

  pub no_room : length out < length ws → (Err SmallBuffer ≡ answer_for ws (length out)) × (out ≡ buffer_after ws out)
  unfolding answer_for buffer_after
  no_room h = let room = lt-leb (length ws) (length out) h in (sym (passed_over _ _ _ room), sym (passed_over _ _ _ room))
