-- Where a report of a service is (ISO 14819-1, clause 6.7.2; document 02, R-1): at home, in the service's own location table, or in a foreign one.
use Rattle.std.specs.Prelude.{ℕ, Bool, cond, ◌&&◌, eqb}
use Rattle.location.specs.declared.Location.{Location}
use Rattle.location.specs.Flt.{foreign, flt_of}
use Rattle.report.specs.declared.Report.{Report}
use Rattle.report.specs.InterRoad.{inter_road}
use Rattle.record.specs.declared.Service.{Service}

-- the location of a report: if it is INTER-ROAD, its real location in the table that its FLT code stands for, else its location in the
-- service's own table
unfoldable pub location_of : Service → Report → Location
location_of s r =
    cond (inter_road r.form r.head) (foreign r.head.location r.real) (record { country = s.country; ltn = s.ltn; code = r.head.location })

-- a location in the service's own table
abbrev pub at_home : Service → Location → Bool
at_home s l = eqb l.country s.country && eqb l.ltn s.ltn

-- how a report gives a location. The location of its head: the code at home, else the FLT code of the table
unfoldable pub head_location : Service → Location → ℕ
head_location s l = cond (at_home s l) l.code (flt_of l)

-- and its real location: none at home, else the code
unfoldable pub real_location : Service → Location → ℕ
real_location s l = cond (at_home s l) 0 l.code
