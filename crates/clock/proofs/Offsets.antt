-- An offset counted from -128.
use Prim.Native.Nat.{ℕ, suc, ◌+◌, ◌*◌, ◌<◌}
use native.Mathlib.Omega.{arith}
use mathlib.Core.Path.{◌≡◌, refl}
use lib.IntN.{ℤ, pos, negsuc, ◌+ℤ◌}
use lib.Signed.{mag}
use borrow.Author.Tests.{le-ltb}
use Rattle.clock.specs.Time.{local_of, shifted}

pub sum_shifted : (z : ℤ) → mag z < 128 → z +ℤ pos 128 ≡ pos (shifted z)
unfolding shifted
sum_shifted (pos n) h = refl
sum_shifted (negsuc n) h = rw (le-ltb 128 (suc n) h)

-- the local minute from it
pub local_shifted : (m : ℕ) (z : ℤ) → mag z < 128 → m + 480 + 30 * shifted z ≡ local_of m z
unfolding shifted local_of
local_shifted m (pos n) h = omega arith
local_shifted m (negsuc n) h = omega arith
