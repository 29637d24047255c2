-- The fields by multiplication.
use Prim.Native.Nat.{ℕ}
use mathlib.Core.Path.{◌≡◌, sym, ap, ◌∙◌}
use borrow.Author.Rules.{rules}
use mir.Syntax.{w8}
use mir.Val.{SFits}
use mir.Facts.{to_z-of_z}
use Rattle.std.specs.Prelude.{Option, Some, unwrap_or}
use Rattle.lto.specs.Offset.{lto_field}
use Rattle.drm_write.specs.Write.{offset}
use Rattle.drm_write.proofs.Fronts.{bare_number, headed_number}
use Rattle.drm_write.proofs.fill.front_number.Goals as goal

pub returns-then-unit-eq0 : goal.returns-then-unit-eq0
returns-then-unit-eq0 c =
    bare_number c.args.unit c.requires.0 c.requires.1 c.if-unit-eq0.true

pub returns-else-unit-eq0 : goal.returns-else-unit-eq0
returns-else-unit-eq0 c =
    let u = c.args.unit in
    let fits : SFits w8 u.lto = search rules in
    let field : lto_field u.lto ≡ Some c.unwrap.result = sym (c.lto_field.ensures.value ∙ ap lto_field (to_z-of_z fits)) ∙ c.unwrap.ensures in
    let same : offset u ≡ c.unwrap.result = ap (λ (o : Option ℕ). unwrap_or o 0) field in
    rw (sym same) (headed_number u c.requires.0 c.requires.1 c.if-unit-eq0.false)
