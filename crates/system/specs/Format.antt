-- The fields of a 16-bit system word (document 01, "System words"; ISO 14819-1, clause 7.5.2.2).
use Rattle.std.specs.Prelude.{ℕ, List, [], ◌∷◌, get_or}

-- the variant, which stands first in both formats
abbrev pub variant_in : List ℕ → ℕ
variant_in f = get_or f 0 0

-- variant, two reserved bits, location table number, alternative frequency indicator, mode, scopes I N R U
abbrev pub table_format : List ℕ
table_format = 2 ∷ 2 ∷ 6 ∷ 1 ∷ 1 ∷ 1 ∷ 1 ∷ 1 ∷ 1 ∷ []

-- its fields by name
abbrev pub ltn_in : List ℕ → ℕ
ltn_in f = get_or f 2 0

abbrev pub afi_in : List ℕ → ℕ
afi_in f = get_or f 3 0

abbrev pub mode_in : List ℕ → ℕ
mode_in f = get_or f 4 0

abbrev pub international_in : List ℕ → ℕ
international_in f = get_or f 5 0

abbrev pub national_in : List ℕ → ℕ
national_in f = get_or f 6 0

abbrev pub regional_in : List ℕ → ℕ
regional_in f = get_or f 7 0

abbrev pub urban_in : List ℕ → ℕ
urban_in f = get_or f 8 0

-- variant, gap, service identifier, Ta, Tw, Td
abbrev pub service_format : List ℕ
service_format = 2 ∷ 2 ∷ 6 ∷ 2 ∷ 2 ∷ 2 ∷ []

-- its fields by name
abbrev pub gap_in : List ℕ → ℕ
gap_in f = get_or f 1 0

abbrev pub sid_in : List ℕ → ℕ
sid_in f = get_or f 2 0

abbrev pub ta_in : List ℕ → ℕ
ta_in f = get_or f 3 0

abbrev pub tw_in : List ℕ → ℕ
tw_in f = get_or f 4 0

abbrev pub td_in : List ℕ → ℕ
td_in f = get_or f 5 0
