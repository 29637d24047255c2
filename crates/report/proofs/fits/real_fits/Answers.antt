-- A place of 16 bits holds every real location, and no place only 0.
use native.Mathlib.Omega.{arith}
use mathlib.Core.Path.{ap, ◌∙◌}
use mathlib.Core.Bool.{Bool, ◌||◌}
use lib.Dec.{eqb}
use Rattle.report.proofs.Places.{real_in_place}
use Rattle.report.proofs.fits.real_fits.Goals as goal

pub returns : goal.returns
returns c =
    let a = c.args in
    ap (λ (b : Bool). eqb a.real 0 || b) c.is_inter_road.ensures ∙ real_in_place a.form a.head a.real (omega (arith, c.ranges.real))
