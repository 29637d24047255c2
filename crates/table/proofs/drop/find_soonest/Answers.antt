-- Of the records passed, this one ends soonest.
use Rattle.std.proofs.Common.{◌≡◌, refl, sym, ap, ◌∙◌, ℕ, ◌+◌, ◌*◌, ◌/◌, ◌++◌, length, drop, arith}
use mathlib.Core.Path.{subst, subst₂}
use Rattle.record.specs.Layout.{record_size, expiry_in}
use Rattle.record.proofs.AsRecord.{as_it_is}
use Rattle.lent.specs.Records.{chunks, records}
use Rattle.lent.proofs.Passes.{nth}
use Rattle.table.specs.Records.{soonest}
use Rattle.table.proofs.Passing.{passed_is, rest_is, within, passed_all}
use Rattle.table.proofs.Soonest.{Sought, sought_sooner, sought_later, sought_all}
use Rattle.table.proofs.drop.find_soonest.Goals as goal
use Rattle.table.proofs.drop.find_soonest.Goals.{In-Some}

pub loop-i-init : goal.loop-i-init
loop-i-init c =
    let t = c.args.t.now in
    let none : c.into_iter-i-iterator.result.count ≡ 0 = cc in
    let all : c.into_iter-i-iterator.result.iter.rest.now ≡ t = cc in
    (cc, all ∙ ap (λ (n : ℕ). drop (n * record_size) t) (sym none), omega arith, subst (λ (n : ℕ). Sought t n 0 0xFFFF_FFFF) (sym none) (refl, refl))

-- the iterator after one more record
module _ (c : In-Some) where
  taken : drop (c.loop-i.i-iterator.count * record_size) c.args.t.now ≡ c.in-Some.record.now ++ c.next.new.self.iter.rest.now
  taken = sym c.loop-i.invariant.1 ∙ c.in-Some.ensures.steps.0.1.0

  long : length c.in-Some.record.now ≡ record_size
  long = c.in-Some.ensures.steps.0.1.1 ∙ c.loop-i.invariant.0

  left : c.next.new.self.iter.rest.now ≡ drop (c.next.new.self.count * record_size) c.args.t.now
  left = rest_is c.args.t.now c.in-Some.record.now c.next.new.self.iter.rest.now c.loop-i.i-iterator.count taken long ∙ ap (λ (n : ℕ). drop (n * record_size) c.args.t.now) (sym c.in-Some.ensures.steps.2)

  ends : expiry_in (nth c.args.t.now c.loop-i.i-iterator.count) ≡ expiry_in c.in-Some.record.now
  ends = ap expiry_in (sym (passed_is c.args.t.now c.in-Some.record.now c.next.new.self.iter.rest.now c.loop-i.i-iterator.count taken long))

pub loop-i-preserved-then-end-least : goal.loop-i-preserved-then-end-least
loop-i-preserved-then-end-least c =
    let at = (goal.at.loop-i-preserved-then-end-least c).In-Some in
    let t = c.args.t.now in
    let l = c.loop-i in
    let k = l.i-iterator.count in
    let steps = c.in-Some.ensures.steps in
    let end : c.expiry-end.result.0 ≡ expiry_in (nth t k) = c.expiry-end.ensures ∙ ap expiry_in (as_it_is c.in-Some.record.now (long at)) ∙ sym (ends at) in
    let found = sought_sooner t l.place l.least k l.invariant.3 (omega (arith, end)) in (
      steps.0.0 ∙ l.invariant.0,
      left at,
      omega (arith, steps.2, within t c.in-Some.record.now c.next.new.self.iter.rest.now k (taken at) (long at)),
      subst (λ (n : ℕ). Sought t n c.in-Some.i c.expiry-end.result.0) (sym steps.2) (subst₂ (Sought t (k + 1)) (sym steps.1) (sym end) found),
    )

pub loop-i-preserved : goal.loop-i-preserved
loop-i-preserved c =
    let at = (goal.at.loop-i-preserved c).In-Some in
    let t = c.args.t.now in
    let l = c.loop-i in
    let k = l.i-iterator.count in
    let steps = c.in-Some.ensures.steps in
    let end : c.expiry-end.result.0 ≡ expiry_in (nth t k) = c.expiry-end.ensures ∙ ap expiry_in (as_it_is c.in-Some.record.now (long at)) ∙ sym (ends at) in (
      steps.0.0 ∙ l.invariant.0,
      left at,
      omega (arith, steps.2, within t c.in-Some.record.now c.next.new.self.iter.rest.now k (taken at) (long at)),
      subst (λ (n : ℕ). Sought t n l.place l.least) (sym steps.2) (sought_later t l.place l.least k l.invariant.3 (omega (arith, end)) (omega (arith, end))),
    )

pub returns : goal.returns
unfolding records
returns c =
    let t = c.args.t.now in
    let l = c.loop-i in
    let k = l.i-iterator.count in
    let e : k ≡ length t / record_size = omega (arith, passed_all t l.i-iterator.iter.rest.now k l.invariant.1 (omega (arith, c.in-None.ensures.steps.0.1.0, l.invariant.0)), l.invariant.2) in
    sym (ap (λ (n : ℕ). soonest (chunks n t)) (sym e) ∙ sought_all t l.place l.least k l.invariant.3)
