-- A free record is well-formed.
use mathlib.Core.Path.{◌≡◌, refl}
use mathlib.Core.Bool.{true}
use Rattle.record.specs.Layout.{free_record}
use Rattle.record.specs.WellFormed.{within, ranges_fit, rest_fits, well_formed}

pub free_fits : well_formed free_record ≡ true
unfolding well_formed ranges_fit rest_fits within
free_fits = refl
