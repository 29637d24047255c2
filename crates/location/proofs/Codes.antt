-- The laws of FLT codes: they are the locations from 64512 on, and each stands for one table.
use Prim.Native.Nat.{ℕ, ◌+◌, ◌*◌, ◌/◌, ◌%◌, ◌^◌, ◌<◌}
use native.Mathlib.Nat.{div-one}
use native.Mathlib.Omega.{arith}
use mathlib.Core.Path.{◌≡◌, refl, sym, ap, ap₂, ◌∙◌}
use mathlib.Core.Bool.{Bool, true}
use mathlib.Core.List.{List, [], ◌∷◌, ◌++◌}
use lib.ListN.{get_or}
use lib.Dec.{eqb, leb}
use borrow.Author.Tests.{eq-eqb, ne_eqb, leb-true, leb-false, le-leb, lt-ltb}
use Rattle.bits.specs.Bits.{bits, val}
use Rattle.bits.specs.Fields.{pack, fits}
use Rattle.bits.proofs.Choice.{either}
use Rattle.bits.proofs.Formats.{unpack-bits, val-pack}
use Rattle.bits.proofs.Value.{bits-mod}
use Rattle.location.specs.Flt.{flt_format, six_ones, flt_code, flt_fields, is_flt, country_in, ltn_in}

-- the fields by division
pub fields_are : (n : ℕ) → flt_fields n ≡ n / 1024 % 64 ∷ n / 64 % 16 ∷ n % 64 ∷ []
unfolding flt_fields
fields_are n = unpack-bits flt_format n ∙ ap (λ (m : ℕ). n / 1024 % 64 ∷ n / 64 % 16 ∷ m % 64 ∷ []) (div-one n)

pub country_is : (n : ℕ) → country_in n ≡ n / 64 % 16
country_is n = ap (λ (f : List ℕ). get_or f 1 0) (fields_are n)

pub ltn_is : (n : ℕ) → ltn_in n ≡ n % 64
ltn_is n = ap (λ (f : List ℕ). get_or f 2 0) (fields_are n)

-- the code by fields, each within its bits
pub code_is : (country ltn : ℕ) → flt_code country ltn ≡ 0xFC00 + 64 * (country % 16) + ltn % 64
unfolding flt_code pack
code_is country ltn =
    let fit : fits flt_format (six_ones ∷ country % 16 ∷ ltn % 64 ∷ []) ≡ true = unfold fits in rw (lt-ltb (country % 16) 16 (omega arith), lt-ltb (ltn % 64) 64 (omega arith)) refl in
    let sum : six_ones * 1024 + (country % 16 * 64 + (ltn % 64 * 1 + 0)) ≡ 0xFC00 + 64 * (country % 16) + ltn % 64 = omega arith in
    sym (ap₂ (λ (c l : List Bool). val (bits 6 six_ones ++ (c ++ (l ++ [])))) (bits-mod 4 country) (bits-mod 6 ltn))
    ∙ val-pack flt_format (six_ones ∷ country % 16 ∷ ltn % 64 ∷ []) fit
    ∙ sum

pub flt_from : (n : ℕ) → n < 2 ^ 16 → is_flt n ≡ leb 0xFC00 n
unfolding is_flt
flt_from n h =
    ap (λ (f : List ℕ). eqb (get_or f 0 0) six_ones) (fields_are n)
    ∙ either (leb 0xFC00 n)
    (λ e. let k = leb-true 0xFC00 n e in eq-eqb (n / 1024 % 64) six_ones (omega arith) ∙ sym e)
    (λ e. let k = leb-false 0xFC00 n e in ne_eqb (n / 1024 % 64) six_ones (λ q. omega arith) ∙ sym e)

-- a table's code is an FLT code, and stands for that table
module _ (country ltn : ℕ) (c : country < 16) (l : ltn < 64) where
  pub code_lt : flt_code country ltn < 2 ^ 16
  code_lt = let e = code_is country ltn in omega arith

  pub code_is_flt : is_flt (flt_code country ltn) ≡ true
  code_is_flt = let e = code_is country ltn in flt_from (flt_code country ltn) code_lt ∙ le-leb 0xFC00 (flt_code country ltn) (omega arith)

  pub code_country : country_in (flt_code country ltn) ≡ country
  code_country = let e = code_is country ltn in country_is (flt_code country ltn) ∙ omega arith

  pub code_ltn : ltn_in (flt_code country ltn) ≡ ltn
  code_ltn = let e = code_is country ltn in ltn_is (flt_code country ltn) ∙ omega arith

-- an FLT code is that of the table for which it stands
pub code_back : (n : ℕ) → n < 2 ^ 16 → is_flt n ≡ true → flt_code (country_in n) (ltn_in n) ≡ n
code_back n h f =
    let k = leb-true 0xFC00 n (sym (flt_from n h) ∙ f) in
    let c = country_is n in
    let l = ltn_is n in
    let e = code_is (country_in n) (ltn_in n) in
    omega arith

-- the fields of any code are in their ranges
pub country_lt : (n : ℕ) → country_in n < 16
country_lt n = omega (arith, country_is n)

pub ltn_lt : (n : ℕ) → ltn_in n < 64
ltn_lt n = omega (arith, ltn_is n)
