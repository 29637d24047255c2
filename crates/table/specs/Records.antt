-- The records of a table counted, searched and changed (documents 01, "The message table", and 02, R-6).
use Rattle.std.specs.Prelude.{ℕ, ◌+◌, Bool, List, [], ◌∷◌, map, set, leb, Option}
use Rattle.std.specs.List.{position, position_or_len}
use Rattle.bits.specs.Bits.{num}
use Rattle.bits.specs.Lists.{joined}
use Rattle.record.specs.Layout.{is_free, expiry_in}
use Rattle.record.specs.Gone.{freed_if}
use Rattle.lent.specs.Records.{records, all_of}

-- how many a test holds of
unfoldable pub count_if : (List ℕ → Bool) → List (List ℕ) → ℕ
count_if p [] = 0
count_if p (r ∷ rs) = num (p r) + count_if p rs

-- a pass: the table with every record changed by a function
unfoldable pub over : (List ℕ → List ℕ) → List ℕ → List ℕ
over f t = joined (map f (records t))

-- the table with every record freed that a test holds of, and how many these are
abbrev pub free_where : (List ℕ → Bool) → List ℕ → List ℕ
free_where p = over (freed_if p)

unfoldable pub count_where : (List ℕ → Bool) → List ℕ → ℕ
count_where p t = count_if p (records t)

-- the lowest-numbered free record, if there is one
unfoldable pub lowest_free : List ℕ → Option ℕ
lowest_free t = position is_free (records t)

-- the record that ends soonest, the lowest-numbered on a tie: the first one whose expiry is at most that of each
unfoldable pub soonest : List (List ℕ) → ℕ
soonest rs = position_or_len (λ r. all_of (λ x. leb (expiry_in r) (expiry_in x)) rs) rs

-- the table with a record stored in a place
unfoldable pub stored : List ℕ → ℕ → List ℕ → List ℕ
stored t place r = joined (set (records t) place r)
