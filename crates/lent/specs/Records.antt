-- The table as a list of records (document 01, "The message table").
use Rattle.std.specs.Prelude.{ℕ, zero, suc, ◌/◌, Bool, List, [], ◌∷◌, length, take, drop}
use Rattle.std.specs.List.{list_all}
use Rattle.record.specs.Layout.{record_size}

-- the first n records of bytes
unfoldable pub chunks : ℕ → List ℕ → List (List ℕ)
chunks zero t = []
chunks (suc n) t = take record_size t ∷ chunks n (drop record_size t)

unfoldable pub records : List ℕ → List (List ℕ)
records t = chunks (length t / record_size) t

-- a test holds of every one
abbrev pub all_of : {A : Type 0} → (A → Bool) → List A → Bool
all_of p xs = list_all p xs
