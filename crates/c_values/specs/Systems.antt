-- System words as C has them (include/alertc.h, "System words").
use Rattle.std.specs.Prelude.{Bool, cond, ◌&&◌, eqb, Result}
use Rattle.std.specs.Result.{result_unwrap_or}
use Rattle.system.specs.declared.System.{System}
use Rattle.system.specs.declared.System.TheVariants.{Table, Service}
use Rattle.c_values.specs.declared.systems.SystemFields.{SystemFields}
use Rattle.refusal.specs.declared.Refusal.{Refusal}
use Rattle.c_values.specs.Whose.{whose}

abbrev pub none : SystemFields
none = record { variant = 0; ltn = 0; afi = 0; mode = 0; international = 0; national = 0; regional = 0; urban = 0; gap = 0; sid = 0; ta = 0; tw = 0; td = 0 }

-- the variant and its fields, the others 0
unfoldable pub fields_of : System → SystemFields
fields_of (Table ltn afi mode i n r u) = record { variant = 0; ltn = ltn; afi = afi; mode = mode; international = i; national = n; regional = r; urban = u; gap = 0; sid = 0; ta = 0; tw = 0; td = 0 }
fields_of (Service gap sid ta tw td) = record { variant = 1; ltn = 0; afi = 0; mode = 0; international = 0; national = 0; regional = 0; urban = 0; gap = gap; sid = sid; ta = ta; tw = tw; td = td }

-- the system word of the variant's own fields
unfoldable pub system_by : SystemFields → System
system_by f =
    cond (eqb f.variant 0) (Table f.ltn f.afi f.mode f.international f.national f.regional f.urban)
    (Service f.gap f.sid f.ta f.tw f.td)

abbrev pub same : SystemFields → SystemFields → Bool
same f g =
    eqb f.variant g.variant && (eqb f.ltn g.ltn && (eqb f.afi g.afi && (eqb f.mode g.mode
    && (eqb f.international g.international && (eqb f.national g.national && (eqb f.regional g.regional && (eqb f.urban g.urban
    && (eqb f.gap g.gap && (eqb f.sid g.sid && (eqb f.ta g.ta && (eqb f.tw g.tw && eqb f.td g.td)))))))))))

-- the system word whose fields these are; refused where there is none
unfoldable pub system_from : SystemFields → Result System Refusal
system_from f = whose same fields_of f (system_by f)

-- and where there is none, one that no call takes
abbrev pub system_or_none : SystemFields → System
system_or_none f = result_unwrap_or (system_from f) (Service 255 0 0 0 0)
