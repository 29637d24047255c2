-- The way back, both directions: an LTO comes back from its field, and a field from its LTO, minus zero apart, which is never written.
use Prim.Native.Nat.{ℕ, ◌<◌}
use native.Mathlib.Omega.{arith}
use mathlib.Core.Path.{◌≡◌}
use lib.IntN.{ℤ, pos, negsuc, nat_abs}
use Rattle.std.specs.Prelude.{Option, Some, None, option_map, unwrap_or}
use Rattle.std.proofs.lemmas.Grind.{common_steps}
use Rattle.lto.specs.Offset.{lto_of, lto_field}

-- up to 31 half hours either way
pub write_read : (z : ℤ) → nat_abs z < 32 → option_map lto_of (lto_field z) ≡ Some z
unfolding lto_field lto_of
write_read (pos n) h = grind (arith, common_steps)
write_read (negsuc n) h = grind (arith, common_steps)

-- the same of the number that stands for a field
pub value_back : (z : ℤ) → nat_abs z < 32 → lto_of (unwrap_or (lto_field z) 0) ≡ z
value_back z h = by (lto_field z) (write_read z h)
  where
    by : (field : Option ℕ) → option_map lto_of field ≡ Some z → lto_of (unwrap_or field 0) ≡ z
    by (Some n) e = cc
    by None e = absurd (cc)

-- fields of six bits; 32 is minus zero
pub read-write : (field : ℕ) → field < 64 → (field ≡ 32 → ⊥) → lto_field (lto_of field) ≡ Some field
unfolding lto_field lto_of
read-write field h other = grind (arith, common_steps)

pub never_minus_zero : (z : ℤ) → lto_field z ≡ Some 32 → ⊥
unfolding lto_field
never_minus_zero (pos n) e = grind (arith, common_steps)
never_minus_zero (negsuc n) e = grind (arith, common_steps)
