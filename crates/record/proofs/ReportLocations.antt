-- The location of a report, by whether it is INTER-ROAD.
use mathlib.Core.Path.{◌≡◌, refl, ap₂}
use mathlib.Core.Bool.{Bool, true, false, ◌&&◌}
use borrow.Author.Tests.{eq-eqb}
use Rattle.bits.proofs.Choice.{chosen, passed_over}
use Rattle.location.specs.declared.Location.{Location}
use Rattle.location.specs.Flt.{foreign}
use Rattle.report.specs.declared.Report.{Report}
use Rattle.report.specs.InterRoad.{inter_road}
use Rattle.record.specs.declared.Service.{Service}
use Rattle.record.specs.Locations.{location_of, at_home}

module _ (s : Service) (r : Report) where
  -- the head's location in the service's own table
  abbrev pub home_location : Location
  home_location = record { country = s.country; ltn = s.ltn; code = r.head.location }

  pub location-foreign : inter_road r.form r.head ≡ true → location_of s r ≡ foreign r.head.location r.real
  unfolding location_of
  location-foreign e = chosen _ _ _ e

  pub location_home : inter_road r.form r.head ≡ false → location_of s r ≡ home_location
  unfolding location_of
  location_home e = passed_over _ _ _ e

  -- which is at home
  pub own_is_home : at_home s home_location ≡ true
  own_is_home = ap₂ (λ (a b : Bool). a && b) (eq-eqb s.country s.country refl) (eq-eqb s.ltn s.ltn refl)
