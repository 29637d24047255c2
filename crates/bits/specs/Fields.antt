-- Numbers in a bit string, one after the other: of one width (`flat`, `words`), or of a format, which is a list of widths (`pack`, `unpack`).
use Rattle.std.specs.Prelude.{ℕ, zero, suc, ◌+◌, ◌^◌, Bool, true, false, ◌&&◌, List, [], ◌∷◌, ◌++◌, take, drop, ltb}
use Rattle.bits.specs.Bits.{bits, val}

-- the numbers of a list, w bits each; the bits of bytes are `flat 8`
unfoldable pub flat : ℕ → List ℕ → List Bool
flat w [] = []
flat w (x ∷ xs) = bits w x ++ flat w xs

-- the first n numbers of w bits each
unfoldable pub words : ℕ → ℕ → List Bool → List ℕ
words w zero l = []
words w (suc n) l = val (take w l) ∷ words w n (drop w l)

-- the bits that a format takes
abbrev pub size : List ℕ → ℕ
size [] = 0
size (w ∷ ws) = w + size ws

-- the fields of a format
unfoldable pub unpack : List ℕ → List Bool → List ℕ
unpack [] l = []
unpack (w ∷ ws) l = val (take w l) ∷ unpack ws (drop w l)

-- the bits of a format's fields
unfoldable pub pack : List ℕ → List ℕ → List Bool
pack [] vs = []
pack (w ∷ ws) [] = []
pack (w ∷ ws) (v ∷ vs) = bits w v ++ pack ws vs

-- a value for each field of the format, and each in its range
unfoldable pub fits : List ℕ → List ℕ → Bool
fits [] [] = true
fits [] (v ∷ vs) = false
fits (w ∷ ws) [] = false
fits (w ∷ ws) (v ∷ vs) = ltb v (2 ^ w) && fits ws vs
