-- Every byte but those of the content is stored.
use mathlib.Core.Path.{refl, ap, ◌∙◌}
use mathlib.Core.List.{[], ◌∷◌, ◌++◌}
use Rattle.location.specs.declared.Location.{Location}
use Rattle.record.specs.Layout.{content_in}
use Rattle.record_report.specs.Made.{front_bytes, tail_bytes}
use Rattle.record_report.proofs.Filling.{fields-put}
use Rattle.record_report.proofs.make.put_fields.Goals as goal

pub returns : goal.returns
returns c =
    let a = c.args in
    let k = a.kept in
    let l = c.location_of-location.result in
    c.put.ensures
    ∙ fields-put (front_bytes a.groups k l) (0 ∷ k.service.country ∷ l.country ∷ l.ltn ∷ []) a.r.now a.classes.0 c.requires refl refl
    ∙ ap (λ (x : Location). front_bytes a.groups k x ++ (content_in a.r.now ++ tail_bytes k.service x a.classes.0)) c.location_of-location.ensures
