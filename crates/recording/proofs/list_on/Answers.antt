-- What was written up to `at` and the lines of the bytes from `from` on make up the listing.
use Prim.Native.Nat.{ℕ}
use native.Mathlib.Omega.{arith}
use mathlib.Core.Path.{◌≡◌, refl, sym, ap, ◌∙◌}
use mathlib.Core.Bool.{Bool, false, cond}
use mathlib.Core.List.{[]}
use Rattle.framing.specs.declared.Frame.{Frame}
use Rattle.framing.specs.declared.Frame.TheVariants.{End, Part, Bad, Whole}
use Rattle.std.specs.Prelude.{Ok, Err}
use Rattle.report.specs.declared.Unreadable.TheVariants.{Refused}
use Rattle.lines.proofs.Puts.{put_nothing}
use Rattle.recording.specs.Listing.{whole}
use lib.ListN.{length, drop, length-drop}
use Rattle.lines.specs.Line.{refusal_line}
use Rattle.framing.specs.Frame.{frame_of}
use Rattle.session.specs.Session.{next, after_frame, frame_text}
use Rattle.recording.proofs.Lines.{whole_there}
use Rattle.session.proofs.Turns.{tail_part}
use Rattle.recording.proofs.Going.{going_start, going_next, going_end, going_full, frame_part, frame-length}
use Rattle.recording.proofs.list_on.Goals as goal

-- a frame of one of the first three kinds
not-whole : (f : Frame) → ((n : ℕ) → f ≡ Whole n → ⊥) → whole f ≡ false
unfolding whole
not-whole End h = refl
not-whole Part h = refl
not-whole Bad h = refl
not-whole (Whole n) h = absurd (h n refl)

pub loop-out-init : goal.loop-out-init
loop-out-init c = going_start _ _ _ _

pub overflow_sub-out : goal.overflow_sub-out
overflow_sub-out c = omega (arith, c.loop-out.invariant.written)

pub slice_bounds-of-count : goal.slice_bounds-of-count
slice_bounds-of-count c = omega (arith, c.loop-out.invariant.taken)

pub slice_bounds-of-start : goal.slice_bounds-of-start
slice_bounds-of-start c = omega (arith, c.loop-out.invariant.taken)

pub of-f-requires : goal.of-f-requires
of-f-requires c = tt

pub put_refusal-requires : goal.put_refusal-requires
put_refusal-requires c = omega (arith, c.loop-out.invariant.written, c.loop-out-test.true)

pub returns-in-Ok : goal.returns-in-Ok
returns-in-Ok c =
    let a = c.args in
    let l = c.loop-out in
    let f = c.of-f in
    let at-hand = f.ensures ∙ ap frame_of (tail_part l.from a.s.now) in
    going_end a.begun a.s.now a.last a.out.now l.session l.from l.at l.out l.invariant _ l.at l.out (put_nothing l.at l.out)
    f.result (Ok c.in-Ok.ended) (sym at-hand) (not-whole f.result c.in_default.not-Whole) (sym c.end.ensures ∙ c.in-Ok.is) refl l.invariant.written

pub returns-in-Err : goal.returns-in-Err
returns-in-Err c =
    let a = c.args in
    let l = c.loop-out in
    let f = c.of-f in
    let call = c.put_refusal in
    let at-hand = f.ensures ∙ ap frame_of (tail_part l.from a.s.now) in
    going_end a.begun a.s.now a.last a.out.now l.session l.from l.at l.out l.invariant _ call.result call.new.out call.ensures.put
    f.result (Err c.in-Err.refusal) (sym at-hand) (not-whole f.result c.in_default.not-Whole) (sym c.end.ensures ∙ c.in-Err.is)
    (ap (λ (n : ℕ). refusal_line n (Refused c.in-Err.refusal)) c.next.ensures)
    (omega (arith, call.ensures.upper_bound, call.auto.out, c.loop-out-test.true))

pub overflow_add-start : goal.overflow_add-start
overflow_add-start c = omega (arith, whole_there (drop c.loop-out.from c.args.s.now) c.in-Whole.n (sym (c.of-f.ensures ∙ ap frame_of (tail_part c.loop-out.from c.args.s.now)) ∙ c.in-Whole.is), length-drop c.loop-out.from c.args.s.now, c.loop-out.invariant.taken)

pub overflow_add-to : goal.overflow_add-to
overflow_add-to c = omega (arith, whole_there (drop c.loop-out.from c.args.s.now) c.in-Whole.n (sym (c.of-f.ensures ∙ ap frame_of (tail_part c.loop-out.from c.args.s.now)) ∙ c.in-Whole.is), length-drop c.loop-out.from c.args.s.now, c.loop-out.invariant.taken)

pub slice_bounds-frame-count : goal.slice_bounds-frame-count
slice_bounds-frame-count c = omega (arith, whole_there (drop c.loop-out.from c.args.s.now) c.in-Whole.n (sym (c.of-f.ensures ∙ ap frame_of (tail_part c.loop-out.from c.args.s.now)) ∙ c.in-Whole.is), length-drop c.loop-out.from c.args.s.now, c.loop-out.invariant.taken)

pub slice_bounds-frame-start : goal.slice_bounds-frame-start
slice_bounds-frame-start c = omega (arith, whole_there (drop c.loop-out.from c.args.s.now) c.in-Whole.n (sym (c.of-f.ensures ∙ ap frame_of (tail_part c.loop-out.from c.args.s.now)) ∙ c.in-Whole.is), length-drop c.loop-out.from c.args.s.now, c.loop-out.invariant.taken)

pub slice_bounds-frame-end : goal.slice_bounds-frame-end
slice_bounds-frame-end c = omega (arith, whole_there (drop c.loop-out.from c.args.s.now) c.in-Whole.n (sym (c.of-f.ensures ∙ ap frame_of (tail_part c.loop-out.from c.args.s.now)) ∙ c.in-Whole.is), length-drop c.loop-out.from c.args.s.now, c.loop-out.invariant.taken)

pub frame-told-requires : goal.frame-told-requires
frame-told-requires c =
    let l = c.loop-out in
    let s = c.args.s.now in
    let there = whole_there (drop l.from s) c.in-Whole.n (sym (c.of-f.ensures ∙ ap frame_of (tail_part l.from s)) ∙ c.in-Whole.is) in
    (omega (arith, there.0, ap length (frame_part l.from c.in-Whole.n s) ∙ frame-length c.in-Whole.n (drop l.from s) there.1), omega (arith, c.loop-out-test.true, l.invariant.written))

pub loop-out-smaller : goal.loop-out-smaller
loop-out-smaller c = omega (arith, whole_there (drop c.loop-out.from c.args.s.now) c.in-Whole.n (sym (c.of-f.ensures ∙ ap frame_of (tail_part c.loop-out.from c.args.s.now)) ∙ c.in-Whole.is), length-drop c.loop-out.from c.args.s.now, c.loop-out.invariant.taken)

pub loop-out-preserved : goal.loop-out-preserved
loop-out-preserved c =
    let a = c.args in
    let l = c.loop-out in
    let call = c.frame-told in
    let f = c.of-f in
    let at-hand = sym (f.ensures ∙ ap frame_of (tail_part l.from a.s.now)) ∙ c.in-Whole.is in
    let part = frame_part l.from c.in-Whole.n a.s.now in
    going_next a.begun a.s.now a.last a.out.now l.session l.from l.at l.out l.invariant _ call.result.at call.new.out call.ensures.put
    c.in-Whole.n call.result.session at-hand
    (ap (frame_text l.session) part)
    (call.ensures.session_value ∙ ap (after_frame l.session) part)
    (omega (arith, call.ensures.at_bound, call.auto.out, c.loop-out-test.true))
    call.auto.out

pub shape_of-out : goal.shape_of-out
shape_of-out c = c.loop-out.invariant.same

pub returns : goal.returns
returns c = going_full _ _ _ _ _ _ _ _ c.loop-out.invariant (omega (arith, c.loop-out-test.false, c.loop-out.invariant.written))
