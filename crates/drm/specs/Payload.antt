-- The fields in the bits of a unit before its check word (document 01, "DRM"; source 002, clause 5).
use Rattle.std.specs.Prelude.{ℕ, ◌+◌, ◌-◌, ◌*◌, ◌/◌, Bool, cond, List, length, get_or, drop, eqb}
use Rattle.bits.specs.Bits.{bits, val}
use Rattle.bits.specs.Fields.{words, unpack}
use Rattle.bits.specs.Overlay.{stretch}
use Rattle.drm.specs.declared.DataUnit.{DataUnit}
use Rattle.drm.specs.Format.{start_format, tmchi_in, id_in, header_format, services_in, country_in, ecc_in, lto_in, system_in, alert_c, word_width, system_width, start_width, flag_at, ua_at, ua_width, header_width}
use Rattle.lto.specs.Offset.{lto_of}

-- TMCHI, rfu, Short ID
abbrev pub start : List Bool → List ℕ
start l = unpack start_format (stretch 0 start_width l)

abbrev pub tmchi : List Bool → ℕ
tmchi l = tmchi_in (start l)

-- the UA flag, which comes after rfa; 0 where there is no header
unfoldable pub ua_flag : List Bool → ℕ
ua_flag l = cond (eqb (tmchi l) 0) 0 (val (stretch flag_at 1 l))

-- the application identifier: the UA data, or that of ALERT-C where there is none
unfoldable pub aid : List Bool → ℕ
aid l = cond (eqb (ua_flag l) 0) alert_c (val (stretch ua_at ua_width l))

-- where the fields of the header lie
abbrev pub header_at : List Bool → ℕ
header_at l = ua_at + ua_flag l * ua_width

-- the bits of these fields; zero bits where there is no header
unfoldable pub header_bits : List Bool → List Bool
header_bits l = cond (eqb (tmchi l) 0) (bits header_width 0) (stretch (header_at l) header_width l)

-- number of services, Country, ECC, LTO, m
abbrev pub header : List Bool → List ℕ
header l = unpack header_format (header_bits l)

abbrev pub system_count : List Bool → ℕ
system_count l = system_in (header l)

-- where the system words lie, and these words
abbrev pub system_at : List Bool → ℕ
system_at l = header_at l + header_width

abbrev pub system_words : List Bool → List ℕ
system_words l = words system_width (system_count l) (drop (system_at l) l)

-- where the user words lie
unfoldable pub words_at : List Bool → ℕ
words_at l = cond (eqb (tmchi l) 0) start_width (system_at l + system_count l * system_width)

-- how many user words there are from bit a on: as many as fit
abbrev pub count_from : ℕ → List Bool → ℕ
count_from a l = (length l - a) / word_width

-- the bits after those words
abbrev pub padding : ℕ → List Bool → List Bool
padding a l = drop (a + count_from a l * word_width) l

-- the fields of the start and of the header, and the system words; what there is none of is 0
unfoldable pub unit_of : List ℕ → List ℕ → List ℕ → DataUnit
unit_of f h ws = record {
  tmchi = tmchi_in f;
  id = id_in f;
  services = services_in h;
  country = country_in h;
  ecc = ecc_in h;
  lto = lto_of (lto_in h);
  system = system_in h;
  first = get_or ws 0 0;
  second = get_or ws 1 0;
  third = get_or ws 2 0;
}
