-- A writer writes just the units that the rules allow.
use Prim.Native.Nat.{ℕ, ◌≤◌}
use mathlib.Core.Path.{◌≡◌, refl, ap₂}
use mathlib.Core.Logic.{◌↔◌}
use mathlib.Core.Bool.{Bool, true, ◌&&◌}
use mathlib.Core.List.{List}
use lib.ListN.{length}
use Rattle.drm.specs.declared.DataUnit.{DataUnit}
use borrow.Author.Tests.{le-leb}
use Rattle.std.specs.Prelude.{Ok}
use Rattle.report.specs.Read.{read_report}
use Rattle.messages.specs.Whole.{Whole}
use Rattle.drm_write.specs.Allowed.{Allowed}
use Rattle.drm_write.specs.Write.{unit_length, can_write, write_unit}
use Rattle.drm_write.proofs.Ranges.{bare_of, headed-of, tmchi_small, id_small, short, unit_allowed}
use Rattle.messages.proofs.Fed.{whole_means}
use Rattle.drm_write.proofs.Written.{fitting, whole_part, written_can}

pub allowed : (u : DataUnit) (ws : List ℕ) → can_write u ws ≡ true ↔ Allowed u ws
unfolding can_write
allowed u ws = (
  λ e. let fit = fitting u ws e in
      record {
        tmchi = tmchi_small u (length ws) fit;
        id = id_small u (length ws) fit;
        bare = bare_of u (length ws) fit;
        headed = headed-of u (length ws) fit;
        bytes = short u (length ws) fit;
        whole = (whole_means read_report ws).0 (whole_part u ws e);
      },
  λ a. ap₂ (λ (x y : Bool). x && y) (unit_allowed u (length ws) a.tmchi a.id a.bare a.headed a.bytes) ((whole_means read_report ws).1 a.whole),
)

-- with room, none of these units is refused
pub allowed_written : (u : DataUnit) (ws : List ℕ) (room : ℕ) → Allowed u ws → unit_length u (length ws) ≤ room → write_unit u ws room ≡ Ok (unit_length u (length ws))
unfolding write_unit
allowed_written u ws room a r = rw ((allowed u ws).1 a, le-leb (unit_length u (length ws)) room r) refl

-- fed in order to a fresh assembler, the words of a written unit give no refusal and leave it empty
pub written-whole : (u : DataUnit) (ws : List ℕ) (room k : ℕ) → write_unit u ws room ≡ Ok k → Whole read_report ws
written-whole u ws room k e = ((allowed u ws).0 (written_can u ws room k e).0).whole
