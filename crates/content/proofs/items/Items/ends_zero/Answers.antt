-- The last item in use.
use mathlib.Core.Path.{sym, ap, ◌∙◌}
use Rattle.content.specs.Packing.{last_zero}
use Rattle.content.proofs.Places.{last_zero-some, last_zero-none}
use Rattle.content.proofs.items.Items.ends_zero.Goals as goal

pub returns-in-Some : goal.returns-in-Some
returns-in-Some c = c.is_zero.ensures ∙ sym (last_zero-some _ c.in-Some.item.now c.in-Some.ensures.value) ∙ ap last_zero c.listed.ensures

pub returns-in-None : goal.returns-in-None
returns-in-None c = sym (last_zero-none _ c.in-None.ensures.value) ∙ ap last_zero c.listed.ensures
