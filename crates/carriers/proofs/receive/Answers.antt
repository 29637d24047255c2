-- A FIG's words are counted by `fig_count`.
use native.Mathlib.Omega.{arith}
use mathlib.Core.Path.{◌≡◌, sym, ap, ap₂, ◌∙◌}
use lib.ListN.{length}
use Rattle.std.specs.Prelude.{Result, Ok}
use Rattle.refusal.specs.declared.Refusal.{Refusal}
use Rattle.fig.specs.declared.Reading.{Reading}
use Rattle.fig.specs.Read.{read_fig}
use Rattle.carriers.specs.declared.Kind.{Kind}
use Rattle.carriers.specs.declared.Kind.TheVariants.{Fig}
use Rattle.carriers.specs.Carried.{kind_by, carried_in, carried_as, by_fig, fig_count}
use Rattle.carriers.proofs.Carrying.{mapped_by, fig_carried}
use Rattle.carriers.proofs.receive.Goals as goal

pub returns-in-Ok-Fig-clause-words_after : goal.returns-in-Ok-Fig-clause-words_after
unfolding carried_as
returns-in-Ok-Fig-clause-words_after c =
    let body = c.args.body.now in
    let room : length c.args.words.now ≡ 27 = omega arith in
    let kind : kind_by c.args.kind ≡ Ok Fig = sym c.in-Ok-Fig.ensures ∙ ap (λ (k : Kind). Ok k) c.in-Ok-Fig.field-0-is in
    ap₂ carried_in (mapped_by fig_count c.read.result c.map.result c.map.ensures.cases) c.read.ensures.out_after
    ∙ fig_carried c.read.result body c.args.words.now
    ∙ ap (λ (x : Result Reading Refusal). by_fig x body) (c.read.ensures.value ∙ ap (read_fig body) room)
    ∙ sym (ap (λ (k : Result Kind Refusal). carried_as k c.args.run body) kind)
