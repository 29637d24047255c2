-- Every life, in order.
use mathlib.Core.Path.{sym, ap, ◌∙◌}
use mathlib.Core.Bool.{Bool, ◌&&◌}
use lib.ListN.{length}
use lib.Dec.{leb}
use borrow.Author.Tests.{eq-eqb}
use Rattle.std.proofs.Common.{rules, tests}
use Rattle.std.proofs.lemmas.Iterator.{YieldsList-from_slice}
use Rattle.std.proofs.lemmas.Iterator.Search.{all_from_yields_List}
use Rattle.clock.specs.Time.{longest_life}
use Rattle.lent.specs.Records.{all_of}
use Rattle.lent.specs.Lives.{lives_fit}
use Rattle.lent.proofs.lives.lives_fit.Goals as goal

pub returns : goal.returns
unfolding lives_fit
returns c =
    let l = c.args.l.now in
    all_from_yields_List (λ x. leb x longest_life) _ _ _ c.all.ensures.ran (YieldsList-from_slice l (cc)) (λ x b q k. search (rules, tests))
    ∙ sym (ap (λ (b : Bool). b && all_of (λ x. leb x longest_life) l) (eq-eqb (length l) 16 c.if-l-ne-LIVES.false))
