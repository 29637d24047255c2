-- The check word (document 01, "DRM"; source 002, "CRC"): a register of 16 stages, read as a number, which the bits enter one by one.
use Rattle.std.specs.Prelude.{ℕ, ◌+◌, ◌*◌, ◌/◌, ◌%◌, ◌^◌, Bool, List, [], ◌∷◌}
use Rattle.std.specs.Int.Bits.{bit_xor}
use Rattle.bits.specs.Bits.{num}
use Rattle.bits.specs.Fields.{flat}

-- x^16 + x^12 + x^5 + 1, below its highest power
abbrev pub polynomial : ℕ
polynomial = 2 ^ 12 + 2 ^ 5 + 1

-- one bit: the stages move up by one, and where the stage that leaves differs from the bit, the polynomial is added
unfoldable pub shifted : ℕ → Bool → ℕ
shifted r b = bit_xor (r % 2 ^ 15 * 2) (bit_xor (r / 2 ^ 15) (num b) * polynomial)

-- the register r after some bits
unfoldable pub entered : ℕ → List Bool → ℕ
entered r [] = r
entered r (b ∷ l) = entered (shifted r b) l

-- all stages are one at the start, and the word is inverted
unfoldable pub check_word : List ℕ → ℕ
check_word s = bit_xor (entered 0xFFFF (flat 8 s)) 0xFFFF
