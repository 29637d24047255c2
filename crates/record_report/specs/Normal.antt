-- The report that a record reads back as (document 02, R-1).
use Rattle.std.specs.Prelude.{Bool, cond, ◌&&◌}
use Rattle.location.specs.Flt.{foreign}
use Rattle.report.specs.declared.Report.{Report}
use Rattle.report.specs.InterRoad.{inter_road}
use Rattle.record.specs.declared.Service.{Service}
use Rattle.record.specs.Locations.{at_home}

-- an INTER-ROAD report with the FLT code of the service's own table
unfoldable pub own_table : Service → Report → Bool
own_table s r = inter_road r.form r.head && at_home s (foreign r.head.location r.real)

-- the same report at home: its real location is its location
abbrev pub brought_home : Report → Report
brought_home r =
    record {
      form = r.form;
      head = record { direction = r.head.direction; extent = r.head.extent; event = r.head.event; location = r.real };
      real = 0;
      diversion = r.diversion;
      duration = r.duration;
      items = r.items;
    }

-- such a report at home; any other report is itself
unfoldable pub normal : Service → Report → Report
normal s r = cond (own_table s r) (brought_home r) r
