-- The words lie within the bytes, and there is room for them.
use native.Mathlib.Omega.{arith}
use mathlib.Core.Path.{refl, sym}
use lib.ListN.{length}
use lib.Seq.{length-take-le}
use Rattle.drm.proofs.Units.{Lies, lies, taken_from, words_from}
use Rattle.drm.proofs.read.take_payload.Goals as goal
use Rattle.drm.proofs.read.take_payload.Goals.{After-first_word-at}

-- where the words lie, from what is required
abbrev laid : (c : After-first_word-at) → Lies c.args.p.now (length c.args.out.now) c.first_word-at.result
laid c =
    lies c.args.p.now (length c.args.out.now) c.first_word-at.result c.first_word-at.ensures c.requires.2

pub unit_in-unit-requires : goal.unit_in-unit-requires
unit_in-unit-requires c =
    (c.requires.0, c.requires.1, (lies c.args.p.now (length c.args.out.now) _ refl c.requires.2).inside)

pub overflow_sub-count : goal.overflow_sub-count
overflow_sub-count c = (laid c).in_bytes

pub slice_bounds-words_at-end : goal.slice_bounds-words_at-end
slice_bounds-words_at-end c = omega (arith, (laid c).room)

pub slice_bounds-words_at-end-2 : goal.slice_bounds-words_at-end-2
slice_bounds-words_at-end-2 c = sym (length-take-le _ c.args.out.now (slice_bounds-words_at-end (goal.at.slice_bounds-words_at-end-2 c).After-first_word-at))

pub words_at-requires : goal.words_at-requires
words_at-requires c =
    let n = length-take-le _ c.args.out.now (slice_bounds-words_at-end (goal.at.words_at-requires c).After-first_word-at) in
    (omega arith, omega (arith, n, (laid (goal.at.words_at-requires c).After-first_word-at).in_bytes), omega (arith, c.requires.1))

pub returns : goal.returns
returns c =
    let a = c.args in
    let p = a.p.now in
    let n = length-take-le _ a.out.now (laid (goal.at.returns c).After-first_word-at).room in record { value = taken_from p c.first_word-at.result c.first_word-at.ensures c.unit_in-unit.result c.unit_in-unit.ensures; out_after = words_from p c.first_word-at.result c.first_word-at.ensures c.unit_in-unit.result a.out.now _ _ n c.words_at.ensures }
