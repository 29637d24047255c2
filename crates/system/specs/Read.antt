-- What a system word says (document 01, "System words").
use Rattle.std.specs.Prelude.{ℕ, cond, List, eqb, Result, Ok, Err}
use Rattle.bits.specs.Bits.{bits}
use Rattle.bits.specs.Fields.{unpack}
use Rattle.refusal.specs.declared.Refusal.{Refusal}
use Rattle.refusal.specs.declared.Refusal.TheVariants.{OtherKind}
use Rattle.system.specs.declared.System.{System}
use Rattle.system.specs.declared.System.TheVariants.{Table, Service}
use Rattle.system.specs.Format.{variant_in, table_format, ltn_in, afi_in, mode_in, international_in, national_in, regional_in, urban_in, service_format, gap_in, sid_in, ta_in, tw_in, td_in}

-- variant 0, from its fields; the reserved bits are read over
abbrev pub table_of : List ℕ → System
table_of f = Table (ltn_in f) (afi_in f) (mode_in f) (international_in f) (national_in f) (regional_in f) (urban_in f)

-- variant 1, from its fields
abbrev pub service_of : List ℕ → System
service_of f = Service (gap_in f) (sid_in f) (ta_in f) (tw_in f) (td_in f)

-- by the variant; refusal 2 for variants 2 and 3
unfoldable pub system_by : List ℕ → List ℕ → Result System Refusal
system_by t s =
    cond (eqb (variant_in t) 0) (Ok (table_of t))
    (cond (eqb (variant_in s) 1) (Ok (service_of s))
    (Err OtherKind))

unfoldable pub system_of : ℕ → Result System Refusal
system_of n = system_by (unpack table_format (bits 16 n)) (unpack service_format (bits 16 n))
