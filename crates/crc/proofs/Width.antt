-- A check word has 16 bits.
use Prim.Native.Nat.{ℕ, ◌*◌, ◌/◌, ◌%◌, ◌^◌, ◌<◌}
use native.Mathlib.Omega.{arith}
use mathlib.Core.Bool.{Bool, true, false}
use mathlib.Core.List.{List, [], ◌∷◌}
use lib.Bits.{bit_xor, xor_lt}
use lib.Dec.{lit<}
use Rattle.bits.specs.Bits.{num}
use Rattle.bits.specs.Fields.{flat}
use Rattle.crc.specs.Register.{shifted, entered, check_word}

num_lt : (b : Bool) → num b < 2
unfolding num
num_lt false = lit< tt
num_lt true = lit< tt

-- the feedback is one bit
pub feedback_lt : (r : ℕ) (b : Bool) → r < 2 ^ 16 → bit_xor (r / 2 ^ 15) (num b) < 2
feedback_lt r b h =
    let high : r / 2 ^ 15 < 2 ^ 1 = omega arith in
    xor_lt 1 (r / 2 ^ 15) (num b) high (num_lt b)

shifted_lt : (r : ℕ) (b : Bool) → r < 2 ^ 16 → shifted r b < 2 ^ 16
unfolding shifted
shifted_lt r b h =
    let low : r % 2 ^ 15 * 2 < 2 ^ 16 = omega arith in
    let taps : bit_xor (r / 2 ^ 15) (num b) * 4129 < 2 ^ 16 = omega (arith, feedback_lt r b h) in
    xor_lt 16 (r % 2 ^ 15 * 2) (bit_xor (r / 2 ^ 15) (num b) * 4129) low taps

entered_lt : (l : List Bool) (r : ℕ) → r < 2 ^ 16 → entered r l < 2 ^ 16
unfolding entered
entered_lt [] r h = h
entered_lt (b ∷ l) r h = entered_lt l (shifted r b) (shifted_lt r b h)

pub check_lt : (s : List ℕ) → check_word s < 2 ^ 16
unfolding check_word
check_lt s = xor_lt 16 (entered 0xFFFF (flat 8 s)) 0xFFFF (entered_lt (flat 8 s) 0xFFFF (lit< tt)) (lit< tt)
