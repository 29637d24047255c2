-- The records passed are freed where they have expired or match.
use Prim.Native.Nat.{ℕ, ◌+◌, ◌-◌, ◌/◌, ◌<◌}
use mathlib.Core.Path.{◌≡◌, refl, sym, ap, ap₂, ◌∙◌}
use native.Mathlib.Omega.{arith}
use lib.ListN.{length}
use Rattle.record.specs.declared.Freed.{Freed}
use Rattle.record.specs.Layout.{record_size}
use Rattle.record.specs.Matching.{matching}
use Rattle.record.specs.Gone.{expired, either, only_second, freed_if}
use Rattle.lent.specs.Records.{chunks}
use Rattle.table.specs.Records.{count_if}
use Rattle.table.proofs.Sweeps.{swept_none, swept_all, counted-all, length_swept}
use Rattle.table.proofs.Freeing.{freed-keeps, freed-next, counted_next, both_at_once, matched_counted}
use Rattle.table.proofs.Matching.{never_free}
use Rattle.table.proofs.sweep.sweep_gone.Goals as goal

pub loop-i-init : goal.loop-i-init
unfolding count_if chunks
loop-i-init c = (swept_none (freed_if (either (expired c.args.minute.0) (matching c.args.key))) c.args.t.now, omega arith, refl)

pub slice_bounds-free_gone-end : goal.slice_bounds-free_gone-end
slice_bounds-free_gone-end c =
    let a = c.args in
    let l = c.loop-i in
    let p = either (expired a.minute.0) (matching a.key) in
    omega (arith, ap length l.invariant.0, length_swept (freed_if p) (freed-keeps p) l.i a.t.now (omega arith))

pub overflow_sub-unexpired : goal.overflow_sub-unexpired
overflow_sub-unexpired c =
    let a = c.args in
    let l = c.loop-i in
    let p = expired a.minute.0 in
    let f = c.free_gone-freed in
    let h : l.i < length a.t.now / record_size = omega arith in
    let next = counted_next (either p (matching a.key)) l.i a.t.now l.t h l.invariant.0 p f.result.expired (ap (λ (x : Freed). x.expired) f.ensures.value) in
    omega (arith, l.invariant.1, next.0, next.1)

pub overflow_add-matched : goal.overflow_add-matched
overflow_add-matched c =
    let a = c.args in
    let l = c.loop-i in
    let p = expired a.minute.0 in
    let q = matching a.key in
    let f = c.free_gone-freed in
    let h : l.i < length a.t.now / record_size = omega arith in
    let next = counted_next (either p q) l.i a.t.now l.t h l.invariant.0 (only_second p q) f.result.matched (ap (λ (x : Freed). x.matched) f.ensures.value) in
    omega (arith, l.invariant.2, next.0, next.1)

pub loop-i-preserved : goal.loop-i-preserved
loop-i-preserved c =
    let a = c.args in
    let l = c.loop-i in
    let p = expired a.minute.0 in
    let q = matching a.key in
    let f = c.free_gone-freed in
    let h : l.i < length a.t.now / record_size = omega arith in
    let gone = counted_next (either p q) l.i a.t.now l.t h l.invariant.0 p f.result.expired (ap (λ (x : Freed). x.expired) f.ensures.value) in (
      freed-next (either p q) l.i a.t.now l.t h l.invariant.0 f.new.r f.ensures.r_after,
      omega (arith, l.invariant.1, gone.0, gone.1, gone.2),
      ap (λ (n : ℕ). n + f.result.matched) l.invariant.2 ∙ (counted_next (either p q) l.i a.t.now l.t h l.invariant.0 (only_second p q) f.result.matched (ap (λ (x : Freed). x.matched) f.ensures.value)).2,
    )

pub overflow_sub-result : goal.overflow_sub-result
overflow_sub-result c = omega (arith, c.loop-i.invariant.1)

pub shape_of-t : goal.shape_of-t
shape_of-t c =
    let a = c.args in
    let l = c.loop-i in
    let p = either (expired a.minute.0) (matching a.key) in
    ap length l.invariant.0 ∙ length_swept (freed_if p) (freed-keeps p) l.i a.t.now (omega arith)

pub returns : goal.returns
returns c =
    let m = c.args.minute.0 in
    let key = c.args.key in
    let t₀ = c.args.t.now in
    let p = expired m in
    let q = matching key in
    let l = c.loop-i in
    let e : l.i ≡ length t₀ / record_size = omega arith in
    let counted : length t₀ / record_size - l.unexpired ≡ count_if p (chunks l.i t₀) = omega (arith, l.invariant.1) in record { value = ap₂ {C = Freed} (λ (x y : ℕ). record { expired = x; matched = y }) (counted ∙ counted-all p l.i t₀ e) (l.invariant.2 ∙ counted-all (only_second p q) l.i t₀ e ∙ sym (matched_counted m q (never_free key) t₀ c.requires)); t_after = l.invariant.0 ∙ swept_all (freed_if (either p q)) (freed-keeps (either p q)) t₀ c.requires l.i e ∙ sym (both_at_once m q (never_free key) t₀ c.requires) }
