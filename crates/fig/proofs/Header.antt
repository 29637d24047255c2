-- The two header bytes as one number of 16 bits, and what the checks of the header say of the length.
use Prim.Native.Nat.{ℕ, ◌*◌, ◌/◌, ◌%◌, ◌≤◌}
use native.Mathlib.Nat.{div-one}
use mathlib.Core.Path.{◌≡◌, sym, ap, ◌∙◌}
use mathlib.Core.Bool.{◌&&◌}
use mathlib.Core.List.{List}
use lib.ListN.{length, take}
use lib.Seq.{length-take-le}
use lib.Dec.{leb, eqb}
use Rattle.bits.specs.Bits.{bits, val}
use Rattle.bits.specs.Fields.{flat, unpack}
use Rattle.bits.proofs.Choice.{between}
use Rattle.bits.proofs.Value.{bits-val}
use Rattle.bits.proofs.Fields.{length-flat}
use Rattle.bits.proofs.Formats.{unpack-bits}
use Rattle.std.specs.Prelude.{Ok}
use Rattle.refusal.specs.declared.Refusal.TheVariants.{WrongLength, OtherKind, Reserved}
use Rattle.refusal.specs.Checks.{must}
use Rattle.refusal.proofs.Checks.{passed}
use Rattle.fig.specs.Format.{fig_format}
use Rattle.fig.specs.Read.{fields, fig_of, check_fields, check_head}

pub fields_of : (s : List ℕ) → 2 ≤ length s → unpack fig_format (bits 16 (val (flat 8 (take 2 s)))) ≡ fields s
fields_of s h = ap (unpack fig_format) (bits-val (flat 8 (take 2 s)) 16 (length-flat 8 (take 2 s) ∙ ap (λ (n : ℕ). n * 8) (length-take-le 2 s h)))

-- D1 and TCId by division
pub fig_at : (s : List ℕ) → 2 ≤ length s → let n = val (flat 8 (take 2 s)) in fig_of (fields s) ≡ record { d1 = n / 128 % 2; tcid = n / 8 % 8 }
fig_at s h =
    let n = val (flat 8 (take 2 s)) in
    ap (λ (f : List ℕ). fig_of f) (sym (fields_of s h) ∙ unpack-bits fig_format n)

-- the checks of a header, by division
pub checks_of : (following header : ℕ) → check_fields following (unpack fig_format (bits 16 header)) ≡
    must (eqb (header / 8192 % 8) 5) OtherKind
    (must (eqb (header / 256 % 32) following) WrongLength
    (must (eqb (header % 8) 1) OtherKind
    (must (eqb (header / 64 % 2) 0) Reserved
    (Ok tt))))
unfolding check_fields
checks_of following header = rw (unpack-bits fig_format, div-one)

-- a header that is not refused belongs to 2 to 30 bytes
pub length_fits : (s : List ℕ) → check_head s ≡ Ok tt → (2 ≤ length s) × (length s ≤ 30)
unfolding check_head
length_fits s e = between 2 (length s) 30 (passed (leb 2 (length s) && leb (length s) 30) _ _ tt e).0
