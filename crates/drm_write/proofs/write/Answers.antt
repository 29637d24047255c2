-- What may be written has its fields in their ranges.
use mathlib.Core.Path.{sym, ◌∙◌}
use lib.Seq.{length-take-le}
use Rattle.drm_write.proofs.Ranges.{few_words}
use Rattle.drm_write.proofs.Written.{fitting}
use Rattle.drm_write.proofs.write.Goals as goal

pub unit_length-end-requires : goal.unit_length-end-requires
unit_length-end-requires c = few_words _ _ (fitting _ _ (sym c.can_write.ensures ∙ c.if-not-can_write.false))

pub fill-requires : goal.fill-requires
fill-requires c = (
  fitting _ _ (sym c.can_write.ensures ∙ c.if-not-can_write.false),
  length-take-le _ c.args.out.now c.if-out-end.false ∙ c.unit_length-end.ensures,
)
