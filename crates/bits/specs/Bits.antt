-- A bit string is a list of Booleans, the highest bit first, as the papers print their fields.
use Rattle.std.specs.Prelude.{ℕ, zero, suc, ◌+◌, ◌*◌, ◌/◌, ◌%◌, ◌^◌, Bool, true, false, List, [], ◌∷◌, length}

-- a number as a bit: 0 is false
unfoldable pub bit : ℕ → Bool
bit zero = false
bit (suc n) = true

-- a bit as a number
unfoldable pub num : Bool → ℕ
num false = 0
num true = 1

-- the w low bits of v
unfoldable pub bits : ℕ → ℕ → List Bool
bits zero v = []
bits (suc w) v = bit (v / 2 ^ w % 2) ∷ bits w v

-- the number that a bit string is
unfoldable pub val : List Bool → ℕ
val [] = 0
val (b ∷ l) = num b * 2 ^ length l + val l

-- no bit is set
unfoldable pub all_zero : List Bool → Bool
all_zero [] = true
all_zero (true ∷ l) = false
all_zero (false ∷ l) = all_zero l
