-- The bytes of a record (documents 01, "The message table", and 02, R-1 and R-5). Numbers are little-endian.
use Rattle.std.specs.Prelude.{ℕ, ◌+◌, ◌*◌, ◌/◌, ◌%◌, Bool, cond, List, [], ◌∷◌, ◌++◌, length, take, drop, get_or, replicate, eqb}
use Rattle.word.specs.declared.Head.{Head}
use Rattle.location.specs.declared.Location.{Location}
use Rattle.report.specs.Record.{content_bytes}
use Rattle.record.specs.declared.Service.{Service}
use Rattle.record.specs.Locations.{head_location, real_location}

-- the bytes of a record
abbrev pub record_size : ℕ
record_size = 42

-- bytes that are one record's
abbrev pub is_record : List ℕ → Bool
is_record r = eqb (length r) record_size

-- a free record is all zero
abbrev pub free_record : List ℕ
free_record = replicate record_size 0

-- bytes that are one record's as they are; others are taken for a free record
unfoldable pub as_record : List ℕ → List ℕ
as_record r = cond (is_record r) r free_record

abbrev pub byte_at : List ℕ → ℕ → ℕ
byte_at r j = get_or r j 0

-- the numbers of two, four and eight bytes from byte j on
abbrev pub two_at : List ℕ → ℕ → ℕ
two_at r j = byte_at r j + 0x100 * byte_at r (j + 1)

abbrev pub four_at : List ℕ → ℕ → ℕ
four_at r j = byte_at r j + 0x100 * byte_at r (j + 1) + 0x1_0000 * byte_at r (j + 2) + 0x100_0000 * byte_at r (j + 3)

abbrev pub eight_at : List ℕ → ℕ → ℕ
eight_at r j = four_at r j + 0x1_0000_0000 * four_at r (j + 4)

-- and back: the four and eight bytes of a number
abbrev pub four_bytes : ℕ → List ℕ
four_bytes n = n % 256 ∷ n / 0x100 % 256 ∷ n / 0x1_0000 % 256 ∷ n / 0x100_0000 ∷ []

abbrev pub eight_bytes : ℕ → List ℕ
eight_bytes n = four_bytes (n % 0x1_0000_0000) ++ four_bytes (n / 0x1_0000_0000)

-- of a well-formed record, whether it is free
abbrev pub is_free : List ℕ → Bool
is_free r = eqb (byte_at r 0) 0

abbrev pub groups_in : List ℕ → ℕ
groups_in r = byte_at r 1

abbrev pub service_in : List ℕ → Service
service_in r = record { country = byte_at r 31; ltn = byte_at r 3; sid = byte_at r 2 }

abbrev pub location_in : List ℕ → Location
location_in r = record { country = byte_at r 32; ltn = byte_at r 33; code = two_at r 4 }

abbrev pub direction_in : List ℕ → ℕ
direction_in r = byte_at r 8

-- the first event
abbrev pub event_in : List ℕ → ℕ
event_in r = two_at r 6

abbrev pub head_in : List ℕ → Head
head_in r = record { direction = direction_in r; extent = byte_at r 9; event = event_in r; location = head_location (service_in r) (location_in r) }

abbrev pub real_in : List ℕ → ℕ
real_in r = real_location (service_in r) (location_in r)

abbrev pub diversion_in : List ℕ → ℕ
diversion_in r = byte_at r 10

abbrev pub duration_in : List ℕ → ℕ
duration_in r = byte_at r 11

-- the minute at which it ends
abbrev pub expiry_in : List ℕ → ℕ
expiry_in r = four_at r 12

-- where the content begins
abbrev pub content_at : ℕ
content_at = 16

abbrev pub content_in : List ℕ → List ℕ
content_in r = take content_bytes (drop content_at r)

-- the update classes of its events, a set
abbrev pub set_at : ℕ
set_at = 34

abbrev pub set_in : List ℕ → ℕ
set_in r = eight_at r set_at

-- the record with another set; bytes that are not one record's as they are
unfoldable pub with_set : ℕ → List ℕ → List ℕ
with_set set r = cond (is_record r) (take set_at r ++ eight_bytes set) r
