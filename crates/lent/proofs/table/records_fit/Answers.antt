-- The records passed are well-formed, and of this one the bytes passed have zeros where their row says.
use Prim.Native.Nat.{ℕ, ◌<◌}
use native.Mathlib.Omega.{arith}
use mathlib.Core.Path.{◌≡◌, refl, sym, ap, subst, ◌∙◌}
use mathlib.Core.Bool.{Bool, true, false, ◌&&◌}
use mathlib.Core.List.{List, ◌++◌}
use lib.ListN.{length}
use borrow.Author.Tests.{eq-eqb}
use Rattle.record.specs.Layout.{record_size}
use Rattle.record.specs.WellFormed.{well_formed}
use Rattle.record.proofs.Tested.{eight_passed, all_passed, eight_fit, eight_fails}
use Rattle.record.proofs.Zeros.{Bytes}
use Rattle.std.specs.Slice.Iter.{chunks_exact_rest, chunks_exact_size}
use Rattle.lent.specs.Records.{records, all_of}
use Rattle.lent.proofs.Passes.{records_cons, records_none, first_bytes, later_bytes}
use Rattle.lent.proofs.table.records_fit.Goals as goal

-- all records, where the bytes are a record and others
all_cons : (l x rest : List ℕ) (b : Bool) → l ≡ x ++ rest → length x ≡ record_size → well_formed x ≡ b → all_of well_formed (records l) ≡ b && all_of well_formed (records rest)
all_cons l x rest b e long fit = ap (λ (m : List ℕ). all_of well_formed (records m)) e ∙ ap (all_of well_formed) (records_cons x rest long) ∙ ap (λ (c : Bool). c && all_of well_formed (records rest)) fit

pub records-init : goal.records-init
records-init c =
    let t = c.args.t.now in
    let e = c.into_iter-r-iterator.ensures.into_iter_gives in
    let whole : c.into_iter-r-iterator.result.rest.now ≡ t = ap chunks_exact_rest e ∙ c.chunks_exact-r-items.ensures.rest in
    let bytes : Bytes t = λ k. omega (arith, c.type_inv.t k) in
    (refl, ap chunks_exact_size e ∙ c.chunks_exact-r-items.ensures.size, subst Bytes (sym whole) bytes, ap (λ (l : List ℕ). all_of well_formed (records l)) (sym whole))

pub loop-j-init : goal.loop-j-init
loop-j-init c = (c.records.invariant.0, omega arith, λ k h inside. absurd (omega arith))

pub loop-j-preserved : goal.loop-j-preserved
loop-j-preserved c =
    let r = c.in-Some.r.now in
    let step = c.in-Some.ensures.steps in
    let before = c.records.invariant in
    let l = c.loop-j in
    let bytes = first_bytes r _ (step.1.1 ∙ before.1) (subst Bytes step.1.0 before.2) in
    let fit = eight_fit r _ l.j bytes c.zero_bits-zeros.ensures (sym c.bytes_fit.ensures ∙ c.if-not-bytes_fit.false) in
    (l.invariant.0, omega arith, eight_passed r l.j bytes l.invariant.2 fit.1)

pub records-preserved : goal.records-preserved
records-preserved c =
    let r = c.in-Some.r.now in
    let step = c.in-Some.ensures.steps in
    let before = c.records.invariant in
    let l = c.loop-j in
    let long = step.1.1 ∙ before.1 in
    let bytes = subst Bytes step.1.0 before.2 in
    let fit = all_passed r long (first_bytes r _ long bytes) l.j c.loop-j-test.false l.invariant.2 in
    (l.invariant.0, step.0 ∙ before.1, later_bytes r _ long bytes, before.3 ∙ all_cons _ r _ true step.1.0 long fit)

pub returns-in-None : goal.returns-in-None
returns-in-None c =
    let step = c.in-None.ensures.steps in
    let before = c.records.invariant in
    let rest = c.records.r-iterator.rest.now in
    let short : length rest < record_size = omega (arith, step.1.0, before.1) in
    before.0 ∙ sym (before.3 ∙ ap (all_of well_formed) (records_none rest short))

pub returns-then-not-bytes_fit : goal.returns-then-not-bytes_fit
returns-then-not-bytes_fit c =
    let r = c.in-Some.r.now in
    let step = c.in-Some.ensures.steps in
    let before = c.records.invariant in
    let long = step.1.1 ∙ before.1 in
    let bytes = subst Bytes step.1.0 before.2 in
    let unfit = eight_fails r _ c.loop-j.j (first_bytes r _ long bytes) c.zero_bits-zeros.ensures (sym c.bytes_fit.ensures ∙ c.if-not-bytes_fit.true) in
    sym (before.3 ∙ all_cons _ r _ false step.1.0 long (sym (ap (λ (b : Bool). b && well_formed r) (eq-eqb (length r) record_size long)) ∙ unfit))
