-- The items from i on are packed, as the definition goes from the last one to the first.
use Prim.Native.Nat.{ℕ, ◌-◌}
use native.Mathlib.Omega.{arith}
use mathlib.Core.Path.{◌≡◌, sym, ap, ◌∙◌}
use mathlib.Core.Bool.{true, false, and-false}
use mathlib.Core.List.{List, []}
use lib.ListN.{length, drop}
use lib.Seq.{drop-length}
use Rattle.std.specs.Prelude.{Ok, Err}
use Rattle.refusal.specs.Checks.{must}
use Rattle.refusal.specs.declared.Refusal.TheVariants.{Unfit}
use Rattle.refusal.proofs.Checks.{passed}
use Rattle.content.specs.Packing.{packing, all_fit, last_zero, packable, writable}
use Rattle.content.specs.Stored.{limit, listed, well_placed}
use Rattle.content.specs.Answers.{packed}
use Rattle.content.specs.declared.item.Item.{Item}
use Rattle.content.proofs.Places.{well_placed-count, length-listed, listed_before}
use Rattle.content.proofs.Prepending.{packed-unfit, packed-fit, packed-refused, refused_told}
use Rattle.content.proofs.pack.pack.Goals as goal
use Rattle.content.proofs.pack.pack.Goals.{then-not-well_placed-via-then-not-well_placed, then-not-well_placed-via-else-not-well_placed+then-ends_zero}

pub ends_zero-requires : goal.ends_zero-requires
ends_zero-requires c = well_placed-count c.args.items (sym c.well_placed.ensures ∙ c.if-not-well_placed.false)

pub returns-then-not-well_placed : goal.returns-then-not-well_placed
unfolding writable
returns-then-not-well_placed c =
    let s = c.args.items in
    elim c.then-not-well_placed.branch [
      | then-not-well_placed-via-then-not-well_placed w ↦ sym (packed-unfit s (rw (sym c.well_placed.ensures ∙ w.if-not-well_placed.true)))
      | then-not-well_placed-via-else-not-well_placed+then-ends_zero w ↦
          let z : last_zero (listed s) ≡ true = sym w.ends_zero.ensures ∙ w.if-ends_zero.true in
          sym (packed-unfit s (rw z (rw (and-false (packable (listed s))) (and-false (well_placed s)))))
    ]

pub loop-i-init : goal.loop-i-init
unfolding packing all_fit packable
loop-i-init c =
    let s = c.args.items in
    let h = well_placed-count s (sym c.well_placed.ensures ∙ c.if-not-well_placed.false) in
    let n : length s.places ≡ limit = c.well_formed.0.1.1.0.1.0.1 in
    let e : drop s.count (listed s) ≡ [] = ap (λ (i : ℕ). drop i (listed s)) (sym (length-listed s n h)) ∙ drop-length (listed s) in
    (omega arith, h, ap packable e, c.new-packed.ensures ∙ sym (ap packed e))

pub returns-in_err-packed : goal.returns-in_err-packed
returns-in_err-packed c =
    let l = c.loop-i in
    let s = c.args.items in
    let j = l.i - 1 in
    let n : length s.places ≡ limit = c.well_formed.0.1.1.0.1.0.1 in
    let e = listed_before s n l.invariant.1 l.i (omega arith) l.invariant.0 in
    let more = c.in_err-packed.ensures (drop l.i (listed s)) l.invariant.2 l.invariant.3 in
    let now : Err c.in_err-packed.field-0.0 ≡ must (packable (drop j (listed s))) Unfit (Ok (packed (drop j (listed s)))) = more ∙ ap (λ (its : List Item). must (packable its) Unfit (Ok (packed its))) e in
    refused_told c.from_residual.result c.in_err-packed.field-0.0 c.from_residual.ensures.1 ∙ sym (packed-refused s j c.in_err-packed.field-0.0 (packed (drop j (listed s))) now)

pub loop-i-preserved : goal.loop-i-preserved
loop-i-preserved c =
    let l = c.loop-i in
    let s = c.args.items in
    let j = l.i - 1 in
    let n : length s.places ≡ limit = c.well_formed.0.1.1.0.1.0.1 in
    let e = listed_before s n l.invariant.1 l.i (omega arith) l.invariant.0 in
    let more = c.in_ok-packed.ensures (drop l.i (listed s)) l.invariant.2 l.invariant.3 in
    let now : Ok c.in_ok-packed.packed ≡ must (packable (drop j (listed s))) Unfit (Ok (packed (drop j (listed s)))) = more ∙ ap (λ (its : List Item). must (packable its) Unfit (Ok (packed its))) e in
    let both = passed _ _ _ _ (sym now) in
    (omega arith, l.invariant.1, both.0, let same = both.1 in cc)

pub returns : goal.returns
unfolding writable
returns c =
    let l = c.loop-i in
    let s = c.args.items in
    let its = listed s in
    let i : l.i ≡ 0 = omega arith in
    let p : well_placed s ≡ true = sym c.well_placed.ensures ∙ c.if-not-well_placed.false in
    let z : last_zero its ≡ false = sym c.ends_zero.ensures ∙ c.if-ends_zero.false in
    let t : packable its ≡ true = sym (ap (λ (k : ℕ). packable (drop k its)) i) ∙ l.invariant.2 in
    let all : l.packed ≡ packed its = l.invariant.3 ∙ ap (λ (k : ℕ). packed (drop k its)) i in
    ap Ok all ∙ sym (packed-fit s (rw (p, t, z)))
