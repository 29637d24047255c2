-- The first item that is found.
use mathlib.Core.Path.{sym, ap, ◌∙◌}
use Rattle.std.specs.Prelude.{Option}
use Rattle.std.specs.Option.{option_map_or}
use Rattle.content.specs.declared.item.Item.{Item}
use Rattle.report.specs.Report.{is_duration}
use Rattle.report.proofs.Searching.{first_found}
use Rattle.report.proofs.read.duration.Goals as goal

pub returns-in-Some : goal.returns-in-Some
returns-in-Some c =
    ap (λ (o : Option Item). option_map_or (λ i. i.value) o 0) (sym c.in-Some.is ∙ c.duration_item.ensures)
    ∙ first_found is_duration (λ i. i.value) c.args.items.now

pub returns-in-None : goal.returns-in-None
returns-in-None c =
    ap (λ (o : Option Item). option_map_or (λ i. i.value) o 0) (sym c.in-None.is ∙ c.duration_item.ensures)
    ∙ first_found is_duration (λ i. i.value) c.args.items.now
