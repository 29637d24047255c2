-- The laws of `pack` and `unpack`: the fields of a format.
use Prim.Native.Nat.{ℕ, ◌+◌, ◌*◌, ◌/◌, ◌%◌, ◌^◌, ◌<◌, ◌≤◌}
use native.Mathlib.Omega.{arith}
use mathlib.Core.Path.{◌≡◌, refl, sym, ap, ap₂, subst, ◌∙◌}
use mathlib.Core.Bool.{Bool, true, ◌&&◌}
use mathlib.Core.List.{List, [], ◌∷◌, ◌++◌}
use lib.ListN.{length, take, drop, length-append, take-append-drop, length-drop}
use lib.Seq.{take_at, drop_at, length-take-le}
use lib.Dec.{ltb}
use borrow.Author.Tests.{ltb-true, lt-ltb}
use Rattle.bits.specs.Bits.{bits, val}
use Rattle.bits.specs.Fields.{size, unpack, pack, fits}
use Rattle.bits.proofs.Choice.{and_left, and_right}
use Rattle.bits.proofs.Value.{length-bits, val-bits, val-bits_lt, bits-val, val_lt, val-append, take-bits, drop_bits}

-- the fields of a format in a number, by division
abbrev pub parts : List ℕ → ℕ → List ℕ
parts [] n = []
parts (w ∷ ws) n = n / 2 ^ size ws % 2 ^ w ∷ parts ws n

-- the number that a format's fields make
abbrev pub joined : List ℕ → List ℕ → ℕ
joined [] vs = 0
joined (w ∷ ws) [] = 0
joined (w ∷ ws) (v ∷ vs) = v * 2 ^ size ws + joined ws vs

-- decoding a number is a division for each field
pub unpack-bits : (ws : List ℕ) (n : ℕ) → unpack ws (bits (size ws) n) ≡ parts ws n
unfolding unpack
unpack-bits [] n = refl
unpack-bits (w ∷ ws) n =
    ap₂ (λ (v : ℕ) (vs : List ℕ). v ∷ vs)
    (ap val (take-bits w (size ws) n) ∙ val-bits w (n / 2 ^ size ws))
    (ap (unpack ws) (drop_bits w (size ws) n) ∙ unpack-bits ws n)

pub unpack-val : (ws : List ℕ) (l : List Bool) → length l ≡ size ws → unpack ws l ≡ parts ws (val l)
unpack-val ws l e = ap (unpack ws) (sym (bits-val l (size ws) e)) ∙ unpack-bits ws (val l)

pub length-pack : (ws vs : List ℕ) → fits ws vs ≡ true → length (pack ws vs) ≡ size ws
unfolding fits pack
length-pack [] vs h = refl
length-pack (w ∷ ws) [] h = cc
length-pack (w ∷ ws) (v ∷ vs) h =
    length-append (bits w v) (pack ws vs) ∙ ap₂ (λ (n m : ℕ). n + m) (length-bits w v) (length-pack ws vs (and_right (ltb v (2 ^ w)) (fits ws vs) h))

-- encoding is a product for each field
pub val-pack : (ws vs : List ℕ) → fits ws vs ≡ true → val (pack ws vs) ≡ joined ws vs
unfolding fits pack
val-pack [] vs h = unfold val in refl
val-pack (w ∷ ws) [] h = cc
val-pack (w ∷ ws) (v ∷ vs) h =
    let h' = and_right (ltb v (2 ^ w)) (fits ws vs) h in
    val-append (bits w v) (pack ws vs)
    ∙ ap₂ (λ (n m : ℕ). n + m)
    (ap₂ (λ (n m : ℕ). n * 2 ^ m) (val-bits_lt w v (ltb-true v (2 ^ w) (and_left (ltb v (2 ^ w)) (fits ws vs) h))) (length-pack ws vs h'))
    (val-pack ws vs h')

-- and the number takes no more bits than the format
pub joined_lt : (ws vs : List ℕ) → fits ws vs ≡ true → joined ws vs < 2 ^ size ws
joined_lt ws vs h = subst (λ (n : ℕ). n < 2 ^ size ws) (val-pack ws vs h) (subst (λ (n : ℕ). val (pack ws vs) < 2 ^ n) (length-pack ws vs h) (val_lt (pack ws vs)))

-- what is packed unpacks to the same fields
pub unpack-pack : (ws vs : List ℕ) → fits ws vs ≡ true → unpack ws (pack ws vs) ≡ vs
unfolding fits pack unpack
unpack-pack [] [] h = refl
unpack-pack [] (v ∷ vs) h = cc
unpack-pack (w ∷ ws) [] h = cc
unpack-pack (w ∷ ws) (v ∷ vs) h =
    ap₂ (λ (n : ℕ) (ns : List ℕ). n ∷ ns)
    (ap val (take_at (bits w v) (pack ws vs) w (length-bits w v)) ∙ val-bits_lt w v (ltb-true v (2 ^ w) (and_left (ltb v (2 ^ w)) (fits ws vs) h)))
    (ap (unpack ws) (drop_at (bits w v) (pack ws vs) w (length-bits w v)) ∙ unpack-pack ws vs (and_right (ltb v (2 ^ w)) (fits ws vs) h))

-- what is unpacked packs to the same bits
pub pack-unpack : (ws : List ℕ) (l : List Bool) → length l ≡ size ws → pack ws (unpack ws l) ≡ l
unfolding pack unpack
pack-unpack [] [] e = refl
pack-unpack [] (b ∷ l) e = absurd (omega arith)
pack-unpack (w ∷ ws) l e =
    let m : w ≤ length l = omega arith in
    let e' : length (drop w l) ≡ size ws = omega (arith, length-drop w l) in
    ap₂ (λ (a b : List Bool). a ++ b) (bits-val (take w l) w (length-take-le w l m)) (pack-unpack ws (drop w l) e') ∙ take-append-drop w l

-- what is unpacked is in range
pub fits-unpack : (ws : List ℕ) (l : List Bool) → length l ≡ size ws → fits ws (unpack ws l) ≡ true
unfolding fits unpack
fits-unpack [] l e = refl
fits-unpack (w ∷ ws) l e =
    let m : w ≤ length l = omega arith in
    let e' : length (drop w l) ≡ size ws = omega (arith, length-drop w l) in
    ap₂ (λ (a b : Bool). a && b) (lt-ltb (val (take w l)) (2 ^ w) (subst (λ (n : ℕ). val (take w l) < 2 ^ n) (length-take-le w l m) (val_lt (take w l)))) (fits-unpack ws (drop w l) e')
