use Prim.Native.Nat.{ℕ, ◌+◌, ◌*◌, ◌/◌, ◌^◌}
use mathlib.Core.Path.{◌≡◌}
use mathlib.Core.List.{List, ◌++◌}
use lib.ListN.{length, take}
use Rattle.bits.proofs.Loading.{low_bytes}
use Rattle.bits.proofs.bytes.store.Given as goal

-- i bytes are left of s₀, and the others are the low bytes of v
pub record Stored (s₀ : List ℕ) (v : ℕ) (s : List ℕ) (rest i : ℕ) : Type 0 where
  pub done : ℕ
  pub total : i + done ≡ length s₀
  pub bytes : s ≡ take i s₀ ++ low_bytes done v
  pub above : rest ≡ v / 2 ^ (done * 8)

abbrev pub invariant-loop-i : goal.invariant-loop-i
invariant-loop-i l = Stored l.initial.s l.v l.s l.rest l.i

abbrev pub decreases-loop-i : goal.decreases-loop-i
decreases-loop-i l = l.i
