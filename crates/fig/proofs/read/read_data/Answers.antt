-- The words that were put into the first cells.
use Prim.Native.Nat.{ℕ}
use mathlib.Core.Path.{ap, sym, ◌∙◌}
use mathlib.Core.List.{List, ◌++◌}
use lib.ListN.{drop}
use Rattle.bits.specs.Fields.{flat, words}
use Rattle.fig.specs.Read.{count_of, words_after}
use Rattle.fig.proofs.Data.{lent}
use Rattle.fig.proofs.read.read_data.Goals as goal

pub returns-clause-out_after : goal.returns-clause-out_after
unfolding words_after
returns-clause-out_after c =
    let a = c.args in
    let w = c.width-w in
    let bytes = a.bytes.now in
    let n = count_of w.result bytes in
    ap (λ (l : List ℕ). l ++ drop n a.out.now)
    (c.words_at.ensures
    ∙ ap (λ (m : ℕ). words w.result m (flat 8 bytes)) (lent w.result bytes a.out.now (sym c.check_data.ensures ∙ c.in_ok-check_data.was))
    ∙ ap (λ (v : ℕ). words v n (flat 8 bytes)) w.ensures)
