-- One content before the other.
use mathlib.Core.Path.{ap, ◌∙◌}
use lib.ListN.{take}
use Prim.Native.Nat.{◌+◌, ◌*◌}
use Rattle.content.specs.declared.content.Content.{Content}
use Rattle.content.specs.Halves.{bits_of}
use Rattle.content.specs.Packing.{group_bits}
use Rattle.assembler.specs.State.{contents_of}
use Rattle.assembler.specs.Joining.{group_before, put_before}
use Rattle.assembler.proofs.Joins.{put-before}
use Rattle.assembler.proofs.join.joined.Goals as goal

pub returns : goal.returns
unfolding contents_of group_before
returns c =
    let a = c.args in
    let p = a.p in
    let n = p.count in
    let start = c.new.result in
    ap (λ (x : Content). take (group_bits * (n + 1)) (bits_of x))
    (c.before-2.ensures
    ∙ ap (put_before n 0 p.first)
    (c.before-second.ensures
    ∙ ap (put_before n 1 p.second)
    (c.before-third.ensures ∙ ap (put_before n 2 p.third) c.prefixed-last.ensures)))
    ∙ put-before start n p.first p.second p.third a.content c.requires
