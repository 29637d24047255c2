-- A DRM data unit (document 01, "DRM"; source 002, clause 5): a start, perhaps a header, words of 37 bits, zero padding, a check word.
use Rattle.std.specs.Prelude.{ℕ, List, [], ◌∷◌, get_or, pos}
use Rattle.drm.specs.declared.DataUnit.{DataUnit}

-- no header, and Short ID 0
abbrev pub empty_unit : DataUnit
empty_unit = record { tmchi = 0; id = 0; services = 0; country = 0; ecc = 0; lto = pos 0; system = 0; first = 0; second = 0; third = 0 }

-- the bytes of a unit, at least and at most (clause 7.3)
abbrev pub shortest : ℕ
shortest = 8

abbrev pub longest : ℕ
longest = 128

-- the bits of a user word and of a system word
abbrev pub word_width : ℕ
word_width = 37

abbrev pub system_width : ℕ
system_width = 16

-- the bits of the start, of the UA data, and of a header's fields after them
abbrev pub start_width : ℕ
start_width = 6

abbrev pub ua_width : ℕ
ua_width = 16

abbrev pub header_width : ℕ
header_width = 24

-- the bits at which the UA flag lies, after the start and rfa, and the UA data; where there is none, the header's fields lie there
abbrev pub flag_at : ℕ
flag_at = 7

abbrev pub ua_at : ℕ
ua_at = 8

-- TMCHI, rfu, Short ID
abbrev pub start_format : List ℕ
start_format = 1 ∷ 1 ∷ 4 ∷ []

-- its fields by name
abbrev pub tmchi_in : List ℕ → ℕ
tmchi_in f = get_or f 0 0

abbrev pub rfu_in : List ℕ → ℕ
rfu_in f = get_or f 1 0

abbrev pub id_in : List ℕ → ℕ
id_in f = get_or f 2 0

-- in a header after rfa, the UA flag and any UA data: number of services, Country, ECC, LTO, m
abbrev pub header_format : List ℕ
header_format = 4 ∷ 4 ∷ 8 ∷ 6 ∷ 2 ∷ []

-- its fields by name; m is the number of system words
abbrev pub services_in : List ℕ → ℕ
services_in f = get_or f 0 0

abbrev pub country_in : List ℕ → ℕ
country_in f = get_or f 1 0

abbrev pub ecc_in : List ℕ → ℕ
ecc_in f = get_or f 2 0

abbrev pub lto_in : List ℕ → ℕ
lto_in f = get_or f 3 0

abbrev pub system_in : List ℕ → ℕ
system_in f = get_or f 4 0

-- the application identifier of ALERT-C (clause 8.3)
abbrev pub alert_c : ℕ
alert_c = 0xCD46
