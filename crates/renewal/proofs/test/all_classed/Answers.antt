-- The records passed have classes.
use Prim.Native.Nat.{ℕ, ◌<◌}
use native.Mathlib.Omega.{arith}
use mathlib.Core.Path.{◌≡◌, sym, ap, ◌∙◌}
use mathlib.Core.Bool.{Bool, true, false, ◌&&◌}
use mathlib.Core.List.{List, ◌++◌}
use lib.ListN.{length}
use Rattle.std.specs.Slice.Iter.{chunks_exact_rest, chunks_exact_size}
use Rattle.record.specs.Layout.{record_size}
use Rattle.record.proofs.Steps.{one_record_lem}
use Rattle.lent.specs.Records.{all_of}
use Rattle.lent.proofs.Passes.{records_cons, records_none}
use Rattle.renewal.specs.Classes.{classed, all_classed}
use Rattle.renewal.proofs.test.all_classed.Goals as goal

-- one record, and those after it
all_cons : (k l x rest : List ℕ) (b : Bool) → l ≡ x ++ rest → length x ≡ record_size → classed k x ≡ b → all_classed k l ≡ b && all_classed k rest
all_cons k l x rest b e long has = ap (all_classed k) e ∙ ap (all_of (classed k)) (records_cons x rest long) ∙ ap (λ (c : Bool). c && all_classed k rest) has

pub loop-record-init : goal.loop-record-init
loop-record-init c =
    let e = c.into_iter-record-iterator.ensures.into_iter_gives in
    let whole : c.into_iter-record-iterator.result.rest.now ≡ c.args.t.now = ap chunks_exact_rest e ∙ c.chunks_exact-record-items.ensures.rest in
    (ap chunks_exact_size e ∙ c.chunks_exact-record-items.ensures.size, ap (all_classed c.args.catalogue.now) (sym whole))

pub loop-record-preserved : goal.loop-record-preserved
loop-record-preserved c =
    let k = c.args.catalogue.now in
    let r = c.in-Some.record.now in
    let step = c.in-Some.ensures.steps in
    let before = c.loop-record.invariant in
    let long = step.1.1 ∙ before.0 in
    let has = sym (one_record_lem (classed k) r long) ∙ sym c.is_classed.ensures ∙ c.if-not-is_classed.false in
    (step.0 ∙ before.0, before.1 ∙ all_cons k _ r _ true step.1.0 long has)

pub returns-then-not-is_classed : goal.returns-then-not-is_classed
returns-then-not-is_classed c =
    let k = c.args.catalogue.now in
    let r = c.in-Some.record.now in
    let step = c.in-Some.ensures.steps in
    let before = c.loop-record.invariant in
    let long = step.1.1 ∙ before.0 in
    let has = sym (one_record_lem (classed k) r long) ∙ sym c.is_classed.ensures ∙ c.if-not-is_classed.true in
    sym (before.1 ∙ all_cons k _ r _ false step.1.0 long has)

pub returns : goal.returns
returns c =
    let step = c.in-None.ensures.steps in
    let before = c.loop-record.invariant in
    let rest = c.loop-record.record-iterator.rest.now in
    let short : length rest < record_size = omega (arith, step.1.0, before.0) in
    sym (before.1 ∙ ap (all_of (classed c.args.catalogue.now)) (records_none rest short))
