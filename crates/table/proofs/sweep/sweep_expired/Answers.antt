-- The records passed are freed where they have expired.
use Prim.Native.Nat.{ℕ, ◌+◌, ◌/◌, ◌<◌}
use mathlib.Core.Path.{◌≡◌, refl, ap, ◌∙◌}
use native.Mathlib.Omega.{arith}
use lib.ListN.{length}
use Rattle.record.specs.Layout.{record_size}
use Rattle.record.specs.Gone.{expired, freed_if}
use Rattle.lent.specs.Records.{chunks}
use Rattle.table.specs.Records.{count_if}
use Rattle.table.proofs.Sweeps.{swept_none, swept_all, counted-all, length_swept}
use Rattle.table.proofs.Freeing.{freed-keeps, freed-next, counted_next}
use Rattle.table.proofs.sweep.sweep_expired.Goals as goal

pub loop-i-init : goal.loop-i-init
unfolding count_if chunks
loop-i-init c = (swept_none (freed_if (expired c.args.minute.0)) c.args.t.now, refl)

pub slice_bounds-free_expired-end : goal.slice_bounds-free_expired-end
slice_bounds-free_expired-end c =
    let a = c.args in
    let l = c.loop-i in
    omega (arith, ap length l.invariant.0, length_swept (freed_if (expired a.minute.0)) (freed-keeps (expired a.minute.0)) l.i a.t.now (omega arith))

pub overflow_add-expired : goal.overflow_add-expired
overflow_add-expired c =
    let a = c.args in
    let l = c.loop-i in
    let p = expired a.minute.0 in
    let h : l.i < length a.t.now / record_size = omega arith in
    let next = counted_next p l.i a.t.now l.t h l.invariant.0 p c.free_expired-expired.result c.free_expired-expired.ensures.value in
    omega (arith, l.invariant.1, next.0, next.1)

pub loop-i-preserved : goal.loop-i-preserved
loop-i-preserved c =
    let a = c.args in
    let l = c.loop-i in
    let p = expired a.minute.0 in
    let f = c.free_expired-expired in
    let h : l.i < length a.t.now / record_size = omega arith in (
      freed-next p l.i a.t.now l.t h l.invariant.0 f.new.r f.ensures.r_after,
      ap (λ (n : ℕ). n + f.result) l.invariant.1 ∙ (counted_next p l.i a.t.now l.t h l.invariant.0 p f.result f.ensures.value).2,
    )

pub shape_of-t : goal.shape_of-t
shape_of-t c =
    let a = c.args in
    let l = c.loop-i in
    ap length l.invariant.0 ∙ length_swept (freed_if (expired a.minute.0)) (freed-keeps (expired a.minute.0)) l.i a.t.now (omega arith)

pub returns : goal.returns
returns c =
    let t₀ = c.args.t.now in
    let p = expired c.args.minute.0 in
    let l = c.loop-i in
    let e : l.i ≡ length t₀ / record_size = omega arith in
    record { value = l.invariant.1 ∙ counted-all p l.i t₀ e; t_after = l.invariant.0 ∙ swept_all (freed_if p) (freed-keeps p) t₀ c.requires l.i e }
