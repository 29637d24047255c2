-- The register and the check word, computed.
use Prim.Native.Nat.{ℕ}
use mathlib.Core.Path.{◌≡◌, refl}
use mathlib.Core.Bool.{Bool, true, false}
use mathlib.Core.List.{List, [], ◌∷◌}
use Rattle.bits.specs.Bits.{bit, num, bits}
use Rattle.bits.specs.Fields.{flat}
use Rattle.crc.specs.Register.{shifted, entered, check_word}

-- one bit (what `step` answers, by its contract) into a register of ones, of zeros, and of stage 15 alone
pub from_ones : (shifted 0xFFFF false ≡ 0xEFDF) × (shifted 0xFFFF true ≡ 0xFFFE)
unfolding num shifted
from_ones = (refl, refl)

pub from_zeros : shifted 0x0000 true ≡ 0x1021
unfolding num shifted
from_zeros = refl

pub from_stage_15 : (shifted 0x8000 false ≡ 0x1021) × (shifted 0x8000 true ≡ 0x0000)
unfolding num shifted
from_stage_15 = (refl, refl)

-- the register after each bit
unfoldable pub registers : ℕ → List Bool → List ℕ
registers r [] = []
registers r (b ∷ l) = shifted r b ∷ registers (shifted r b) l

-- the bits of the digit 1, from the start
pub one_byte : registers 0xFFFF (bits 8 0x31) ≡ 0xEFDF ∷ 0xCF9F ∷ 0x9F3E ∷ 0x3E7C ∷ 0x7CF8 ∷ 0xF9F0 ∷ 0xE3C1 ∷ 0xC782 ∷ []
unfolding bit num bits shifted registers
one_byte = refl

pub one_digit : check_word (0x31 ∷ []) ≡ 0x387D
unfolding bit num bits flat shifted entered check_word
one_digit = refl

-- the published value: the digits 1 to 9 (CRC-16/GENIBUS)
pub nine_digits : check_word (0x31 ∷ 0x32 ∷ 0x33 ∷ 0x34 ∷ 0x35 ∷ 0x36 ∷ 0x37 ∷ 0x38 ∷ 0x39 ∷ []) ≡ 0xD64E
unfolding bit num bits flat shifted entered check_word
nine_digits = refl

pub no_bytes : check_word [] ≡ 0x0000
unfolding flat entered check_word
no_bytes = refl

pub zeros_and_ones : (check_word (0x00 ∷ []) ≡ 0x1E0F) × (check_word (0xFF ∷ 0xFF ∷ []) ≡ 0xFFFF)
unfolding bit num bits flat shifted entered check_word
zeros_and_ones = (refl, refl)
