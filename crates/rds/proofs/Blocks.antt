-- A group of eight bytes as one number of 64 bits.
use Prim.Native.Nat.{ℕ, ◌+◌, ◌*◌, ◌/◌, ◌%◌, ◌^◌, ◌<◌}
use native.Mathlib.Omega.{arith}
use native.Mathlib.Nat.{div-one}
use mathlib.Core.Path.{◌≡◌, sym, ap, ◌∙◌}
use mathlib.Core.Bool.{true, ◌&&◌}
use mathlib.Core.List.{List}
use lib.ListN.{length}
use lib.Dec.{eqb}
use borrow.Author.Tests.{eqb-true}
use Rattle.std.specs.Prelude.{Ok}
use Rattle.refusal.specs.declared.Refusal.TheVariants.{WrongLength, OtherKind}
use Rattle.refusal.specs.Checks.{must}
use Rattle.bits.specs.Bits.{bits, val}
use Rattle.bits.specs.Fields.{flat, words, pack, fits}
use Rattle.bits.proofs.Choice.{either, chosen, passed_over}
use Rattle.bits.proofs.Value.{bits-val}
use Rattle.bits.proofs.Fields.{length-flat}
use Rattle.bits.proofs.Formats.{unpack-val, length-pack, val-pack, joined_lt}
use Rattle.rds.specs.declared.Group.{Group}
use Rattle.rds.specs.Format.{group_format, group_values}
use Rattle.rds.specs.Read.{group_by, read_group}
use Rattle.rds.specs.Write.{group_bytes}

-- reading by division for each field
pub by_division : (s : List ℕ) → let n = val (flat 8 s) in read_group s ≡
    must (eqb (length s) 8) WrongLength
    (must (eqb (n / 2 ^ 44 % 16) 8 && eqb (n / 2 ^ 43 % 2) 0) OtherKind
    (Ok (record { pi = n / 2 ^ 48 % 2 ^ 16; tp = n / 2 ^ 42 % 2; pty = n / 2 ^ 37 % 32; word = n % 2 ^ 37 })))
unfolding read_group group_by
by_division s =
    either (eqb (length s) 8)
    (λ t.
    chosen _ _ _ t
    ∙ ap group_by (unpack-val group_format (flat 8 s) (length-flat 8 s ∙ ap (λ (n : ℕ). n * 8) (eqb-true (length s) 8 t)))
    ∙ rw div-one (sym (chosen _ _ _ t)))
    (λ t. passed_over _ _ _ t ∙ sym (passed_over _ _ _ t))

-- the bytes of a group are those of its number
pub number_bytes : (g : Group) → fits group_format (group_values g) ≡ true → words 8 8 (bits 64 (val (pack group_format (group_values g)))) ≡ group_bytes g
unfolding group_bytes
number_bytes g h = ap (words 8 8) (bits-val (pack group_format (group_values g)) 64 (length-pack group_format (group_values g) h))

-- this number is the sum of a product for each field, and takes 64 bits
module _ (g : Group) (h : fits group_format (group_values g) ≡ true) where
  pub sum_is : val (pack group_format (group_values g)) ≡ g.pi * 0x1000000000000 + 0x800000000000 + g.tp * 0x40000000000 + g.pty * 0x2000000000 + g.word
  sum_is = omega (arith, val-pack group_format (group_values g) h)

  pub sum_lt : g.pi * 0x1000000000000 + 0x800000000000 + g.tp * 0x40000000000 + g.pty * 0x2000000000 + g.word < 2 ^ 64
  sum_lt = omega (arith, joined_lt group_format (group_values g) h)
