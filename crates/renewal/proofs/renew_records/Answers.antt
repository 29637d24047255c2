-- The records passed are renewed, and the used ones counted.
use Prim.Native.Nat.{ℕ, ◌+◌, ◌/◌, ◌≤◌, ◌<◌}
use mathlib.Core.Path.{◌≡◌, refl, ap, ◌∙◌}
use mathlib.Core.Bool.{Bool}
use native.Mathlib.Omega.{arith}
use lib.ListN.{length}
use Rattle.bits.specs.Bits.{num}
use Rattle.record.specs.Layout.{record_size}
use Rattle.lent.specs.Records.{chunks}
use Rattle.table.specs.Records.{count_if, count_where}
use Rattle.table.specs.Effect.{used}
use Rattle.table.proofs.Counts.{count_le, num_le}
use Rattle.table.proofs.Sweeps.{length-chunks, swept_none, swept_all, counted-all, length_swept, part_sized, swept_next, count_next}
use Rattle.renewal.specs.Renewal.{renewed}
use Rattle.renewal.proofs.Renewals.{renewed-keeps}
use Rattle.renewal.proofs.renew_records.Goals as goal

at_most_one : (n : ℕ) (b : Bool) → n ≡ num b → n ≤ 1
at_most_one n b e = omega (arith, num_le b)

pub loop-i-init : goal.loop-i-init
unfolding count_if chunks
loop-i-init c = let a = c.args in (swept_none (renewed a.catalogue.now) a.t.now, refl)

pub slice_bounds-renew_record-end : goal.slice_bounds-renew_record-end
slice_bounds-renew_record-end c =
    let a = c.args in
    let l = c.loop-i in
    let k = a.catalogue.now in
    omega (arith, ap length l.invariant.0, length_swept (renewed k) (renewed-keeps k) l.i a.t.now (omega arith))

pub renew_record-used-requires : goal.renew_record-used-requires
renew_record-used-requires c =
    let a = c.args in
    let l = c.loop-i in
    let k = a.catalogue.now in
    part_sized (renewed k) (renewed-keeps k) l.i a.t.now l.t (omega arith) l.invariant.0

pub overflow_add-used : goal.overflow_add-used
overflow_add-used c =
    let a = c.args in
    let l = c.loop-i in
    let f = c.renew_record-used in
    omega (arith, l.invariant.1, at_most_one _ _ f.ensures.value, count_le used (chunks l.i a.t.now), length-chunks l.i a.t.now)

pub loop-i-preserved : goal.loop-i-preserved
loop-i-preserved c =
    let a = c.args in
    let l = c.loop-i in
    let k = a.catalogue.now in
    let f = c.renew_record-used in
    let h : l.i < length a.t.now / record_size = omega arith in (
      swept_next (renewed k) (renewed-keeps k) l.i a.t.now l.t h l.invariant.0 f.new.r f.ensures.r_after,
      ap (λ (n : ℕ). n + f.result) l.invariant.1 ∙ count_next (renewed k) (renewed-keeps k) l.i a.t.now l.t h l.invariant.0 used f.result f.ensures.value,
    )

pub shape_of-t : goal.shape_of-t
shape_of-t c =
    let a = c.args in
    let l = c.loop-i in
    let k = a.catalogue.now in
    ap length l.invariant.0 ∙ length_swept (renewed k) (renewed-keeps k) l.i a.t.now (omega arith)

pub returns : goal.returns
unfolding count_where
returns c =
    let t₀ = c.args.t.now in
    let k = c.args.catalogue.now in
    let l = c.loop-i in
    let e : l.i ≡ length t₀ / record_size = omega arith in
    record { value = l.invariant.1 ∙ counted-all used l.i t₀ e; t_after = l.invariant.0 ∙ swept_all (renewed k) (renewed-keeps k) t₀ c.requires l.i e }
