-- The bits that are zero in a well-formed record (documents 01, "The message table", and 02, R-5): those above the bits of each byte, and the content bits
-- after those of the groups.
use Rattle.std.specs.Prelude.{ℕ, zero, suc, ◌+◌, ◌-◌, ◌*◌, ◌^◌, Bool, cond, not, ◌&&◌, List, [], ◌∷◌, ◌++◌, map, take, drop, replicate, eqb, min}
use Rattle.std.specs.Int.Bits.{bit_and}
use Rattle.content.specs.Packing.{group_bits}
use Rattle.report.specs.Record.{content_bytes}
use Rattle.record.specs.Layout.{record_size, is_free, groups_in, content_at, eight_at}
use Rattle.record.specs.WellFormed.{widths, complete}

-- in n bytes, the bits after the first u
unfoldable pub spares : (u n : ℕ) → List ℕ
spares u zero = []
spares u (suc n) = (2 ^ (8 - u) - 1) ∷ spares (u - 8) n

-- in each byte, those above its bits
unfoldable pub above : List ℕ
above = map (λ w. 256 - 2 ^ w) widths

-- in a used record of so many groups
unfoldable pub zeros_for : ℕ → List ℕ
zeros_for g = take content_at above ++ (spares (group_bits * (g - 1)) content_bytes ++ drop content_bytes (drop content_at above))

-- in a free record, and in one of one to five groups
unfoldable pub zero_bits : List ℕ
zero_bits = replicate record_size 255 ++ (zeros_for 1 ++ (zeros_for 2 ++ (zeros_for 3 ++ (zeros_for 4 ++ zeros_for 5))))

-- the row of a record: its groups, or that of the free records, which a used record that is not complete does not meet
unfoldable pub row_of : List ℕ → ℕ
row_of r = cond (not (is_free r) && complete r) (groups_in r) 0

-- where eight bytes begin: at byte j, or at the last eight of a record
abbrev pub eight_from : ℕ → ℕ
eight_from j = min j (record_size - 8)

-- these eight, as one number, have zeros where the record's row of the rows zs says
unfoldable pub bytes_zero : (zs r : List ℕ) → ℕ → Bool
bytes_zero zs r j = eqb (bit_and (eight_at r (eight_from j)) (eight_at zs (row_of r * record_size + eight_from j))) 0
