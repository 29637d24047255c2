-- Eight bytes at the end.
use native.Mathlib.Omega.{arith}
use mathlib.Core.Path.{sym, ◌∙◌}
use Rattle.record.proofs.StoredSets.{set_left, bytes-put}
use Rattle.record.proofs.classes.Classes.put.Goals as goal

pub returns-then-r-ne-SIZE : goal.returns-then-r-ne-SIZE
returns-then-r-ne-SIZE c = let a = c.args in sym (set_left a.self.0 a.r.now c.if-r-ne-SIZE.true)

pub returns : goal.returns
returns c =
    let a = c.args in
    bytes-put a.self.0 a.r.now c.copy_from_slice.new.self (c.copy_from_slice.ensures.after ∙ c.to_le_bytes.ensures) (omega arith) c.if-r-ne-SIZE.false
