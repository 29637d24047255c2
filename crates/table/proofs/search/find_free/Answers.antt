-- No record passed is free.
use Prim.Native.Nat.{ℕ, ◌/◌, ◌<◌}
use mathlib.Core.Path.{◌≡◌, sym, ap, ◌∙◌}
use native.Mathlib.Omega.{arith}
use mathlib.Core.Bool.{true, false}
use lib.ListN.{length}
use lib.Dec.{eqb}
use borrow.Author.Tests.{eq-eqb, ne_eqb}
use Rattle.record.specs.Layout.{record_size, is_free}
use Rattle.lent.specs.Records.{records}
use Rattle.lent.proofs.Passes.{nth, first_byte, rest-whole}
use Rattle.table.specs.Records.{lowest_free}
use Rattle.std.specs.List.{position_or_len}
use Rattle.table.proofs.Counts.{position_none, position_some}
use Rattle.table.proofs.Sweeps.{length-records}
use Rattle.table.proofs.Searching.{first_here, first-later, first-end}
use Rattle.table.proofs.search.find_free.Goals as goal

pub loop-i-init : goal.loop-i-init
loop-i-init c =
    let t = c.args.t.now in
    let whole = ap (position_or_len is_free) (rest-whole (length t / record_size) t) in
    (omega (arith, whole), omega arith)

pub loop-i-preserved : goal.loop-i-preserved
loop-i-preserved c =
    let t = c.args.t.now in
    let l = c.loop-i in
    let n = length t / record_size in
    let h : l.i < n = omega arith in
    let no : is_free (nth t l.i) ≡ false = ap (λ (b : ℕ). eqb b 0) (first_byte t l.i) ∙ ne_eqb _ 0 c.if-t-a-eq0.false in
    (omega (arith, l.invariant.0, first-later is_free n l.i t h no), omega arith)

pub returns-then-i-n : goal.returns-then-i-n
unfolding lowest_free records
returns-then-i-n c =
    let t = c.args.t.now in
    let l = c.loop-i in
    let n = length t / record_size in
    let e : l.i ≡ n = omega arith in
    sym (position_none is_free (records t) (omega (arith, l.invariant.0, first-end is_free n l.i t e, length-records t)))

pub returns-then-t-a-eq0 : goal.returns-then-t-a-eq0
unfolding lowest_free records
returns-then-t-a-eq0 c =
    let t = c.args.t.now in
    let l = c.loop-i in
    let n = length t / record_size in
    let h : l.i < n = omega arith in
    let yes : is_free (nth t l.i) ≡ true = ap (λ (b : ℕ). eqb b 0) (first_byte t l.i) ∙ eq-eqb _ 0 c.if-t-a-eq0.true in
    sym (position_some is_free (records t) l.i (omega (arith, l.invariant.0, first_here is_free n l.i t h yes)) (omega (arith, length-records t)))
