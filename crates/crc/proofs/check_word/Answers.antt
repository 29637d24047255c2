-- The register and the bytes left give what the register of ones and all bytes give.
use Prim.Native.Nat.{ℕ, suc}
use native.Mathlib.Numerals.{add-one}
use mathlib.Core.Path.{sym, ap, ◌∙◌}
use mathlib.Core.List.{List}
use lib.ListN.{drop, drop_of_length-le}
use lib.Bits.{bit_xor}
use Rattle.bits.specs.Fields.{flat}
use Rattle.crc.specs.Register.{entered, check_word}
use Rattle.crc.proofs.Entering.{byte_next}
use Rattle.crc.proofs.check_word.Goals as goal

pub loop-byte-preserved : goal.loop-byte-preserved
loop-byte-preserved c =
    let s = c.args.s.now in
    let l = c.loop-byte in
    rw add-one
    (ap (λ (r : ℕ). entered r (flat 8 (drop (suc l.byte-index) s))) c.with_byte-register.ensures
    ∙ byte_next l.register l.byte-index s c.loop-byte-test.true
    ∙ l.invariant)

pub returns : goal.returns
unfolding entered flat check_word
returns c =
    let s = c.args.s.now in
    let l = c.loop-byte in
    let none = drop_of_length-le s c.loop-byte-test.false in
    ap (λ (r : ℕ). bit_xor r 0xFFFF) (sym (ap (λ (t : List ℕ). entered l.register (flat 8 t)) none) ∙ l.invariant)
