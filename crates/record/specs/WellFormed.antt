-- The well-formed records (documents 01, "The message table", and 02, R-1 and R-5).
use Rattle.std.specs.Prelude.{ℕ, ◌-◌, ◌*◌, ◌^◌, Bool, true, cond, not, ◌&&◌, ◌||◌, List, [], ◌∷◌, ◌++◌, drop, replicate, eqb, leb, ltb}
use Rattle.bits.specs.Bits.{all_zero}
use Rattle.bits.specs.Fields.{flat}
use Rattle.content.specs.Packing.{group_bits}
use Rattle.record.specs.Layout.{record_size, is_free, groups_in, expiry_in, content_in, set_in}
use Rattle.record.specs.Classes.{set_fits}

-- the bits of each byte of a used record: mark, groups, SID, LTN, location, event, direction, extent, diversion, duration; expiry and
-- content; none, country; country and LTN of the location; the set of classes
unfoldable pub widths : List ℕ
widths = (1 ∷ 3 ∷ 6 ∷ 6 ∷ 8 ∷ 8 ∷ 8 ∷ 3 ∷ 1 ∷ 3 ∷ 1 ∷ 3 ∷ []) ++ (replicate 18 8 ++ ((0 ∷ 4 ∷ 4 ∷ 6 ∷ []) ++ replicate 8 8))

-- no byte has more than its bits
unfoldable pub within : (ws xs : List ℕ) → Bool
within [] xs = true
within (w ∷ ws) [] = true
within (w ∷ ws) (x ∷ xs) = ltb x (2 ^ w) && within ws xs

-- every byte is in its range; those of a free record have no bits
unfoldable pub ranges_fit : List ℕ → Bool
ranges_fit r = within (cond (is_free r) (replicate record_size 0) widths) r

-- an expiry other than 0 and a set of update classes
unfoldable pub marked : List ℕ → Bool
marked r = not (eqb (expiry_in r) 0) && set_fits (set_in r)

-- one to five groups
abbrev pub groups_fit : List ℕ → Bool
groups_fit r = leb 1 (groups_in r) && leb (groups_in r) 5

-- these, and an expiry and a set of classes
unfoldable pub complete : List ℕ → Bool
complete r = groups_fit r && marked r

-- the content bits of its groups
abbrev pub content_bits : List ℕ → ℕ
content_bits r = group_bits * (groups_in r - 1)

-- the content bits after those of its groups
abbrev pub spare_in : List ℕ → List Bool
spare_in r = drop (content_bits r) (flat 8 (content_in r))

-- a used record is complete, and its content is zero after the bits of its groups
unfoldable pub rest_fits : List ℕ → Bool
rest_fits r = is_free r || complete r && all_zero (spare_in r)

unfoldable pub well_formed : List ℕ → Bool
well_formed r = ranges_fit r && rest_fits r
