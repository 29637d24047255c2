-- The start and the header as numbers, in 48 bits or more.
use Prim.Native.Nat.{ℕ, ◌+◌, ◌%◌, ◌^◌, ◌<◌, ◌≤◌}
use native.Mathlib.Nat.{div-one, lt_of_lt_of_le}
use native.Mathlib.Omega.{arith}
use mathlib.Core.Path.{◌≡◌, refl, ap, ◌∙◌}
use mathlib.Core.Bool.{Bool, true, false, cond}
use mathlib.Core.List.{List, [], ◌∷◌}
use lib.ListN.{length, drop, length-take, length-drop}
use lib.Seq.{length-take-le}
use lib.Pow.{pow_mono}
use lib.Dec.{eqb, lit<}
use Rattle.bits.specs.Bits.{bits, val}
use Rattle.bits.specs.Fields.{flat, unpack}
use Rattle.bits.specs.Overlay.{stretch}
use Rattle.bits.proofs.Value.{val_lt, length-bits, bits-val, val-bits_lt}
use Rattle.bits.proofs.Fields.{length-flat}
use Rattle.bits.proofs.Formats.{unpack-val}
use Rattle.drm.specs.Format.{start_format, rfu_in, header_format, system_in}
use Rattle.drm.specs.Payload.{start, tmchi, ua_flag, header_at, header_bits, header, system_count}

pub bits_in : (p : List ℕ) → 6 ≤ length p → 48 ≤ length (flat 8 p)
bits_in p h = omega (arith, length-flat 8 p)

-- a stretch that lies within
within : (a w : ℕ) (l : List Bool) → a + w ≤ length l → length (stretch a w l) ≡ w
within a w l h = length-take-le w _ (omega (arith, length-drop a l))

-- a field of w bits is below 2 ^ w, wherever it lies
pub field_lt : (a w : ℕ) (l : List Bool) → val (stretch a w l) < 2 ^ w
field_lt a w l = lt_of_lt_of_le (val_lt (stretch a w l)) (pow_mono (omega (arith, length-take w (drop a l))))

bounded : (t : Bool) (n : ℕ) → n < 2 → cond t 0 n < 2
bounded true n h = lit< tt
bounded false n h = h

sized : (t : Bool) (a b : List Bool) (n : ℕ) → length a ≡ n → length b ≡ n → length (cond t a b) ≡ n
sized true a b n e f = e
sized false a b n e f = f

module _ (l : List Bool) (long : 48 ≤ length l) where
  start-length : length (stretch 0 6 l) ≡ 6
  start-length = within 0 6 l (omega arith)

  pub start_of : unpack start_format (bits 6 (val (stretch 0 6 l))) ≡ start l
  start_of = ap (unpack start_format) (bits-val (stretch 0 6 l) 6 start-length)

  pub flag_small : ua_flag l < 2
  unfolding ua_flag
  flag_small = bounded (eqb (tmchi l) 0) (val (stretch 7 1 l)) (field_lt 7 1 l)

  pub header-length : length (header_bits l) ≡ 24
  unfolding header_bits
  header-length = sized (eqb (tmchi l) 0) (bits 24 0) (stretch (header_at l) 24 l) 24 (length-bits 24 0) (within (header_at l) 24 l (omega (arith, flag_small)))

  pub header_of : unpack header_format (bits 24 (val (header_bits l))) ≡ header l
  header_of = ap (unpack header_format) (bits-val (header_bits l) 24 header-length)

  pub count_of : system_count l ≡ val (header_bits l) % 4
  count_of = ap system_in (unpack-val header_format (header_bits l) header-length) ∙ ap (λ (n : ℕ). n % 4) (div-one (val (header_bits l)))

-- TMCHI is the first bit
pub first_bit : (l : List Bool) → tmchi l ≡ val (stretch 0 1 l)
unfolding unpack
first_bit [] = refl
first_bit (b ∷ l) = refl

-- and rfu the second
pub second_bit : (l : List Bool) → rfu_in (start l) ≡ val (stretch 1 1 l)
unfolding unpack
second_bit [] = refl
second_bit (b ∷ []) = refl
second_bit (b ∷ d ∷ l) = refl

pub bit_lt : (a : ℕ) (l : List Bool) → val (stretch a 1 l) < 2
bit_lt a l = field_lt a 1 l

-- no header is 0 as a number
pub no_bits : val (bits 24 0) ≡ 0
no_bits = val-bits_lt 24 0 (lit< tt)

-- m of the bytes
pub count_in : (p : List ℕ) → 6 ≤ length p → system_count (flat 8 p) ≡ val (header_bits (flat 8 p)) % 4
count_in p h = count_of (flat 8 p) (bits_in p h)
