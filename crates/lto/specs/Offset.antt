-- LTO, a signed number of half hours (document 01, "DRM"; source 002, clause 5, "TMC LTO").
use Rattle.std.specs.Prelude.{ℕ, ◌+◌, ◌%◌, cond, ltb, ℤ, pos, negsuc, neg_ℤ, Option, Some, None}

-- a sign bit and five bits of half hours; minus zero is 0
unfoldable pub lto_of : ℕ → ℤ
lto_of field = cond (ltb field 32) (pos field) (neg_ℤ (pos (field % 32)))

-- the field of an LTO, none where it is out of range
unfoldable pub lto_field : ℤ → Option ℕ
lto_field (pos n) = cond (ltb n 32) (Some n) None
lto_field (negsuc n) = cond (ltb n 31) (Some (33 + n)) None
