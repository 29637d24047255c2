-- An LTO has a field exactly up to 31 half hours, and it is one of six bits.
use Prim.Native.Nat.{ℕ, ◌<◌}
use native.Mathlib.Omega.{arith}
use mathlib.Core.Path.{◌≡◌}
use lib.IntN.{ℤ, pos, negsuc, nat_abs}
use Rattle.std.specs.Prelude.{Option, Some, None, IsSome, unwrap_or}
use Rattle.std.proofs.lemmas.Grind.{common_steps}
use Rattle.lto.specs.Offset.{lto_field}

pub field_near : (z : ℤ) → IsSome (lto_field z) → nat_abs z < 32
unfolding lto_field
field_near (pos n) h = grind (arith, common_steps)
field_near (negsuc n) h = grind (arith, common_steps)

pub near_field : (z : ℤ) → nat_abs z < 32 → IsSome (lto_field z)
unfolding lto_field
near_field (pos n) h = grind (arith, common_steps)
near_field (negsuc n) h = grind (arith, common_steps)

pub field_small : (z : ℤ) (field : ℕ) → lto_field z ≡ Some field → field < 64
unfolding lto_field
field_small (pos n) field e = grind (arith, common_steps)
field_small (negsuc n) field e = grind (arith, common_steps)

-- and 0 stands for none
pub value_small : (z : ℤ) → unwrap_or (lto_field z) 0 < 64
unfolding lto_field
value_small (pos n) = grind (arith, common_steps)
value_small (negsuc n) = grind (arith, common_steps)
