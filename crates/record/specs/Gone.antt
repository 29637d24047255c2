-- The records that a call frees (document 01, "The message table", steps 1 and 2).
use Rattle.std.specs.Prelude.{ℕ, Bool, cond, not, ◌&&◌, ◌||◌, List, leb}
use Rattle.record.specs.Layout.{is_record, free_record, is_free, expiry_in}

-- step 1: a used record that ends at or before the minute
unfoldable pub expired : ℕ → List ℕ → Bool
expired minute r = not (is_free r) && leb (expiry_in r) minute

-- one of two tests holds; the second alone does
abbrev pub either : (p q : List ℕ → Bool) → List ℕ → Bool
either p q r = p r || q r

abbrev pub only_second : (p q : List ℕ → Bool) → List ℕ → Bool
only_second p q r = not (p r) && q r

-- free if a test holds, else as it was
unfoldable pub freed_if : (List ℕ → Bool) → List ℕ → List ℕ
freed_if p r = cond (p r) free_record r

-- bytes that are one record's, and a test holds of them
unfoldable pub one_record : (List ℕ → Bool) → List ℕ → Bool
one_record p r = is_record r && p r
