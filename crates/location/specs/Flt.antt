-- The foreign location table (FLT) code: six ones, the country of the location table (4 bits), its number (6 bits) (ISO 14819-1, clause
-- 6.7.2).
use Rattle.std.specs.Prelude.{ℕ, Bool, List, [], ◌∷◌, get_or, eqb}
use Rattle.bits.specs.Bits.{bits, val}
use Rattle.bits.specs.Fields.{pack, unpack}
use Rattle.location.specs.declared.Location.{Location}

abbrev pub flt_format : List ℕ
flt_format = 6 ∷ 4 ∷ 6 ∷ []

abbrev pub six_ones : ℕ
six_ones = 63

-- the code of a table
unfoldable pub flt_code : (country ltn : ℕ) → ℕ
flt_code country ltn = val (pack flt_format (six_ones ∷ country ∷ ltn ∷ []))

-- the fields of a location's 16 bits
unfoldable pub flt_fields : ℕ → List ℕ
flt_fields n = unpack flt_format (bits 16 n)

-- whether they are those of such a code
unfoldable pub is_flt : ℕ → Bool
is_flt n = eqb (get_or (flt_fields n) 0 0) six_ones

abbrev pub country_in : ℕ → ℕ
country_in flt = get_or (flt_fields flt) 1 0

abbrev pub ltn_in : ℕ → ℕ
ltn_in flt = get_or (flt_fields flt) 2 0

-- the location with a code in the table that an FLT code stands for
unfoldable pub foreign : (flt code : ℕ) → Location
foreign flt code = record { country = country_in flt; ltn = ltn_in flt; code = code }

-- the FLT code of a location's table
abbrev pub flt_of : Location → ℕ
flt_of l = flt_code l.country l.ltn
