-- One record replaced.
use Prim.Native.Nat.{ℕ, ◌+◌, ◌-◌, ◌*◌}
use mathlib.Core.Path.{ap, ◌∙◌}
use mathlib.Core.List.{List}
use borrow.Rule.Slice.PartMut.{put_mid}
use Rattle.record.specs.Layout.{record_size}
use Rattle.record_report.specs.Made.{record_of}
use Rattle.record_report.proofs.Makings.{bytes_made_lem}
use Rattle.lent.proofs.Passes.{length_part}
use Rattle.table.proofs.Storing.{put-stored}
use Rattle.table.proofs.take.put_at.Goals as goal

pub returns : goal.returns
returns c =
    let a = c.args in
    let i = a.place in
    ap (λ (r : List ℕ). put_mid (i * record_size) (i * record_size + record_size - i * record_size) a.t.now r) (c.put-made.ensures.r_after ∙ bytes_made_lem _ a.kept a.classes.0 (length_part a.t.now i c.requires.1) c.requires.2)
    ∙ put-stored a.t.now (record_of a.kept a.classes.0) i c.requires.0 c.requires.1
