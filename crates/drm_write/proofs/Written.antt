-- What may be written, and its parts.
use Prim.Native.Nat.{ℕ}
use mathlib.Core.Path.{◌≡◌}
use mathlib.Core.Bool.{true}
use mathlib.Core.List.{List}
use lib.ListN.{length}
use lib.Dec.{leb}
use Rattle.std.specs.Prelude.{Ok}
use Rattle.refusal.specs.declared.Refusal.TheVariants.{Unfit, SmallBuffer}
use Rattle.refusal.proofs.Checks.{written_passed}
use Rattle.bits.proofs.Choice.{and_left, and_right}
use Rattle.drm.specs.declared.DataUnit.{DataUnit}
use Rattle.report.specs.Read.{read_report}
use Rattle.messages.specs.Messages.{whole}
use Rattle.drm_write.specs.Write.{unit_length, unit_fits, can_write, write_unit}

module _ (u : DataUnit) (ws : List ℕ) where
  pub fitting : can_write u ws ≡ true → unit_fits u (length ws) ≡ true
  unfolding can_write
  fitting e = and_left (unit_fits u (length ws)) (whole read_report ws) e

  pub whole_part : can_write u ws ≡ true → whole read_report ws ≡ true
  unfolding can_write
  whole_part e = and_right (unit_fits u (length ws)) (whole read_report ws) e

  -- what is written may be written, and n is its length
  pub written_can : (room n : ℕ) → write_unit u ws room ≡ Ok n → (can_write u ws ≡ true) × (unit_length u (length ws) ≡ n)
  unfolding write_unit
  written_can room n e = written_passed (can_write u ws) (leb (unit_length u (length ws)) room) (unit_length u (length ws)) n SmallBuffer Unfit e
