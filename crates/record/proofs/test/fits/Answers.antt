-- The bytes passed have zeros where their row says.
use Prim.Native.Nat.{◌≤◌}
use native.Mathlib.Omega.{arith}
use mathlib.Core.Path.{sym, ap₂, ◌∙◌}
use mathlib.Core.Bool.{Bool, ◌&&◌}
use lib.ListN.{length}
use borrow.Author.Tests.{eq-eqb}
use Rattle.record.specs.Layout.{record_size}
use Rattle.record.proofs.Tested.{eight_passed, all_passed, eight_fit, eight_fails}
use Rattle.record.proofs.test.fits.Goals as goal

pub loop-j-init : goal.loop-j-init
loop-j-init c = (omega arith, λ some. absurd (omega arith), λ k h inside. absurd (omega arith))

pub returns-then-not-bytes_fit : goal.returns-then-not-bytes_fit
returns-then-not-bytes_fit c =
    let r = c.args.r.now in
    sym (eight_fails r _ c.loop-j.j (λ k. omega (arith, c.type_inv.r k)) c.zero_bits-zeros.ensures (sym c.bytes_fit.ensures ∙ c.if-not-bytes_fit.true))

pub loop-j-preserved : goal.loop-j-preserved
loop-j-preserved c =
    let r = c.args.r.now in
    let l = c.loop-j in
    let fit = eight_fit r _ l.j (λ k. omega (arith, c.type_inv.r k)) c.zero_bits-zeros.ensures (sym c.bytes_fit.ensures ∙ c.if-not-bytes_fit.false) in
    (omega arith, λ some. fit.0, eight_passed r l.j (λ k. omega (arith, c.type_inv.r k)) l.invariant.2 fit.1)

pub returns : goal.returns
returns c =
    let r = c.args.r.now in
    let l = c.loop-j in
    let past : record_size ≤ l.j = omega arith in
    let long = l.invariant.1 (omega arith) in
    sym (ap₂ (λ (a b : Bool). a && b) (eq-eqb (length r) record_size long) (all_passed r long (λ k. omega (arith, c.type_inv.r k)) l.j past l.invariant.2))
