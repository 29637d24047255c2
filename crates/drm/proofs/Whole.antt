-- A unit's bytes: those before the check word, and the check word.
use Prim.Native.Nat.{ℕ}
use mathlib.Core.Path.{◌≡◌}
use mathlib.Core.Bool.{true}
use mathlib.Core.List.{List}
use lib.ListN.{length}
use Rattle.std.specs.Prelude.{Ok}
use Rattle.bits.specs.Fields.{flat}
use Rattle.refusal.specs.declared.Refusal.TheVariants.{WrongLength, WrongCheckWord}
use Rattle.refusal.proofs.Checks.{passed}
use Rattle.crc.specs.Block.{payload, is_checked}
use Rattle.drm.specs.Read.{length_fits, test_payload, test_unit}

-- a unit that passes
pub accepted : (s : List ℕ) (room : ℕ) → test_unit s room ≡ Ok tt → (length_fits (length s) ≡ true) × (test_payload (flat 8 (payload s)) room ≡ Ok tt)
unfolding test_unit
accepted s room e =
    let p = passed (length_fits (length s)) WrongLength _ tt e in
    (p.0, (passed (is_checked s) WrongCheckWord _ tt p.1).1)
