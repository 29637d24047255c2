-- The tens, and then the last digit; the measure is the number.
use Prim.Native.Nat.{ℕ, ◌/◌, ◌%◌}
use native.Mathlib.Omega.{arith}
use mathlib.Core.Path.{sym, ap, ◌∙◌}
use mathlib.Core.List.{[], ◌∷◌}
use lib.ListN.{length, length-append}
use Rattle.lines.specs.Decimal.{digit, decimal}
use Rattle.lines.proofs.Puts.{put_as, put_then}
use Rattle.lines.proofs.Decimals.{decimal-more}
use Rattle.lines.proofs.text.+put_decimal.Goals as goal

pub put_decimal-next-requires : goal.put_decimal-next-requires
put_decimal-next-requires t c =
    let n = c.args.n in
    (omega arith, omega (arith, c.requires, ap length (decimal-more n c.if-n-lt10.false), length-append (decimal (n / 10)) (digit (n % 10) ∷ [])))

pub put_byte-requires-else-n-lt10 : goal.put_byte-requires-else-n-lt10
put_byte-requires-else-n-lt10 t c =
    let n = c.args.n in
    let call = c.put_decimal-next in
    omega (arith, c.requires, call.ensures.0, call.auto.out, ap length (decimal-more n c.if-n-lt10.false), length-append (decimal (n / 10)) (digit (n % 10) ∷ []))

pub returns-else-n-lt10 : goal.returns-else-n-lt10
returns-else-n-lt10 t c =
    let a = c.args in
    let tens = c.put_decimal-next in
    let last = c.put_byte-else-n-lt10 in
    let byte = put_as tens.result tens.new.out last.result last.new.out (ap (λ (b : ℕ). b ∷ []) c.digit-else-n-lt10.ensures) last.ensures in
    put_as a.at a.out.now _ _ (sym (decimal-more a.n c.if-n-lt10.false)) (put_then a.at (decimal (a.n / 10)) (digit (a.n % 10) ∷ []) a.out.now (omega (arith, c.requires)) tens.ensures byte)
