-- The records that match a report (documents 01, "The message table", step 2, and 02, R-1, R-4 and R-5; ISO 14819-1, clause 6.4).
use Rattle.std.specs.Prelude.{Bool, not, ◌&&◌, List, ℕ, eqb}
use Rattle.location.specs.declared.Location.{Location}
use Rattle.record.specs.declared.Service.{Service}
use Rattle.record.specs.declared.Key.{Key}
use Rattle.record.specs.Layout.{is_free, service_in, location_in, direction_in, set_in}
use Rattle.record.specs.Classes.{meet}

-- two services, and two locations, are the same if all their parts are
abbrev pub same_service : (x y : Service) → Bool
same_service x y = eqb x.country y.country && (eqb x.ltn y.ltn && eqb x.sid y.sid)

abbrev pub same_location : (x y : Location) → Bool
same_location x y = eqb x.code y.code && (eqb x.country y.country && eqb x.ltn y.ltn)

-- a used record of the same service, location and direction, with a class in its set that the report has too
unfoldable pub matching : Key → List ℕ → Bool
matching k r =
    not (is_free r)
    && (same_service (service_in r) k.service
    && (same_location (location_in r) k.location && (eqb (direction_in r) k.direction && meet k.classes.0 (set_in r))))
