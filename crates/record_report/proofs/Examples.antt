-- The worked records of an INTER-ROAD report (document 02, R-1), computed.
use Prim.Native.Nat.{ℕ}
use mathlib.Core.Path.{◌≡◌, refl}
use mathlib.Core.Bool.{false}
use mathlib.Core.List.{List, ◌∷◌, ◌++◌}
use lib.ListN.{replicate}
use Rattle.bits.specs.Bits.{bit, num, bits, val}
use Rattle.bits.specs.Fields.{words, unpack}
use Rattle.content.specs.Widths.{widths, width}
use Rattle.content.specs.Packing.{item_bits, packing}
use Rattle.content.specs.Stored.{filled, listed}
use Rattle.location.specs.Flt.{flt_fields, is_flt, foreign}
use Rattle.report.specs.declared.Report.{Report}
use Rattle.report.specs.InterRoad.{inter_road}
use Rattle.report.specs.Record.{bytes_of, groups_for, groups_of}
use Rattle.report.specs.Samples.{report401}
use Rattle.record.specs.declared.Service.{Service}
use Rattle.record.specs.declared.Key.{Key}
use Rattle.record.specs.Locations.{location_of}
use Rattle.record.specs.Matching.{matching}
use Rattle.record_report.specs.declared.Kept.{Kept}
use Rattle.record_report.specs.Made.{record_of}
use Rattle.record_report.specs.Normal.{own_table, normal}

-- a service of country 13 with table 17
abbrev pub service : Service
service = record { country = 13; ltn = 17; sid = 3 }

-- the report of the two groups, which is at home at 500, with an FLT code and its location as real location
abbrev pub report401_at : ℕ → Report
report401_at flt =
    record {
      form = report401.form;
      head = record { direction = report401.head.direction; extent = report401.head.extent; event = report401.head.event; location = flt };
      real = report401.head.location;
      diversion = report401.diversion;
      duration = report401.duration;
      items = report401.items;
    }

-- what a record keeps of a report that ends at minute 160
abbrev pub kept : Report → Kept
kept x = record { report = x; service = service; expiry = record { 0 = 160 } }

-- its record with class 9 alone that ends at minute 160, by the country and the number of its location table: the items alone, in two groups
abbrev pub bytes401 : (country ltn : ℕ) → List ℕ
bytes401 country ltn =
    (0x01 ∷ 0x02 ∷ 0x03 ∷ 0x11 ∷ 0xF4 ∷ 0x01 ∷ 0x91 ∷ 0x01 ∷ 0x00 ∷ 0x01 ∷ 0x00 ∷ 0x02 ∷ 0xA0 ∷ 0x00 ∷ 0x00 ∷ 0x00 ∷ 0x35 ∷ 0x02 ∷ replicate 12 0) ++ (0x00 ∷ 0x0D ∷ country ∷ ltn ∷ 0x00 ∷ 0x02 ∷ replicate 6 0)

-- in table 1 of the same country, though on air it takes three groups
pub foreign-bytes : record_of (kept (report401_at 0xFF41)) 0x200 ≡ bytes401 0x0D 0x01
unfolding bit num bits val words unpack widths width item_bits packing filled listed flt_fields is_flt foreign inter_road bytes_of groups_for groups_of location_of record_of
foreign-bytes = refl

-- at home, and with the FLT code of the service's own table
pub home_bytes : record_of (kept report401) 0x200 ≡ bytes401 0x0D 0x11
unfolding bit num bits val words unpack widths width item_bits packing filled listed flt_fields is_flt foreign inter_road bytes_of groups_for groups_of location_of record_of
home_bytes = refl

pub own_bytes : record_of (kept (report401_at 0xFF51)) 0x200 ≡ bytes401 0x0D 0x11
unfolding bit num bits val words unpack widths width item_bits packing filled listed flt_fields is_flt foreign inter_road bytes_of groups_for groups_of location_of record_of
own_bytes = refl

-- which reads back as the report at home
pub own_normal : normal service (report401_at 0xFF51) ≡ report401
unfolding bit num bits val unpack flt_fields is_flt foreign inter_road own_table normal
own_normal = refl

-- what a report is matched by, of class 9
abbrev key : Report → Key
key r = record { service = service; location = location_of service r; direction = r.head.direction; classes = record { 0 = 0x200 } }

-- neither is at the location of the other's record
pub home_not-foreign : matching (key report401) (bytes401 0x0D 0x01) ≡ false
unfolding bit num bits val unpack flt_fields is_flt foreign inter_road location_of matching
home_not-foreign = refl

pub foreign-not_home : matching (key (report401_at 0xFF41)) (bytes401 0x0D 0x11) ≡ false
unfolding bit num bits val unpack flt_fields is_flt foreign inter_road location_of matching
foreign-not_home = refl
