-- After a code that no table marks its stage stays.
use Rattle.std.proofs.Common.{◌≡◌, ap, sym, ◌∙◌, arith, false, Some}
use Rattle.std.specs.Option.{unwrap_or}
use lib.Dec.{eqb}
use borrow.Author.Tests.{ne_eqb}
use Rattle.labels.specs.declared.stage.Stage.TheVariants.{Labels}
use Rattle.labels.proofs.Table.{next_is}
use Rattle.labels.proofs.row.next_stage.Goals as goal

pub returns-in_default : goal.returns-in_default
returns-in_default c =
    let r = c.args.row in
    let n15 : eqb r 15 ≡ false = ne_eqb r 15 (λ e. omega arith) in
    let n29 : eqb r 29 ≡ false = ne_eqb r 29 (λ e. omega arith) in
    let n31 : eqb r 31 ≡ false = ne_eqb r 31 (λ e. grind arith) in
    let n32 : eqb r 32 ≡ false = ne_eqb r 32 (λ e. grind arith) in
    let n62 : eqb r 62 ≡ false = ne_eqb r 62 (λ e. grind arith) in
    let n63 : eqb r 63 ≡ false = ne_eqb r 63 (λ e. grind arith) in
    let n64 : eqb r 64 ≡ false = ne_eqb r 64 (λ e. omega arith) in
    let n65 : eqb r 65 ≡ false = ne_eqb r 65 (λ e. omega arith) in
    ap Some (c.unwrap_or.ensures ∙ ap (λ s. unwrap_or s Labels) c.of_row.ensures) ∙ sym (next_is r c.args.value ∙ rw (n15, n29, n31, n32, n62, n63, n64, n65))
