-- The table of widths, a run of equal ones at a time.
use Prim.Native.Nat.{ℕ, zero, suc, ◌+◌, ◌≤◌, ◌<◌}
use native.Mathlib.Omega.{arith}
use mathlib.Core.Path.{◌≡◌, sym, ap, ◌∙◌}
use mathlib.Core.Bool.{Bool, true, ◌&&◌}
use lib.Dec.{eqb}
use lib.ListN.{get_or-eq_default}
use borrow.Author.Tests.{eqb-true, eqb-false}
use Rattle.content.specs.Widths.{widths, width}
use Rattle.bits.proofs.Choice.{either, and_left, and_right}

-- n labels from lo on have width w
abbrev run : ℕ → ℕ → ℕ → Bool
run lo zero w = true
run lo (suc n) w = eqb (width lo) w && run (suc lo) n w

pub width_in : (lo n w label : ℕ) → run lo n w ≡ true → lo ≤ label → label < lo + n → w ≡ width label
width_in lo zero w label h a b = absurd (omega arith)
width_in lo (suc n) w label h a b =
    either (eqb label lo)
    (λ e. sym (ap width (eqb-true label lo e) ∙ eqb-true (width lo) w (and_left (eqb (width lo) w) (run (suc lo) n w) h)))
    (λ e.
    let d = eqb-false label lo e in
    width_in (suc lo) n w label (and_right (eqb (width lo) w) (run (suc lo) n w) h) (omega arith) (omega arith))

-- the last label and those beyond have no value
pub no_width : (label : ℕ) → 14 ≤ label → 0 ≡ width label
unfolding widths width
no_width label h =
    either (eqb label 14)
    (λ e. sym (ap width (eqb-true label 14 e)))
    (λ e. let d = eqb-false label 14 e in sym (get_or-eq_default widths 0 {n = label} (omega arith)))
