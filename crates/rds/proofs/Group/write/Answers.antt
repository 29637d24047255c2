-- The number of the group stored in the first eight cells.
use Prim.Native.Nat.{ℕ, ◌*◌}
use mathlib.Core.Path.{sym, ap, ap₂, ◌∙◌}
use mathlib.Core.Bool.{Bool, ◌&&◌}
use mathlib.Core.List.{List, ◌++◌}
use lib.ListN.{length, drop}
use lib.Seq.{length-take-le}
use borrow.Author.Tests.{le-leb}
use Rattle.bits.specs.Bits.{bits}
use Rattle.bits.specs.Fields.{words}
use Rattle.bits.proofs.Choice.{chosen}
use Rattle.rds.specs.Write.{buffer_after}
use Rattle.rds.proofs.Blocks.{number_bytes}
use Rattle.rds.proofs.Group.write.Goals as goal

pub returns-clause-out_after : goal.returns-clause-out_after
unfolding buffer_after
returns-clause-out_after c =
    let out = c.args.out.now in
    let fit = sym c.group_fits.ensures ∙ c.if-not-group_fits.false in
    let room = c.if-out-lt-LENGTH.false in
    ap (λ (l : List ℕ). l ++ drop 8 out)
    (c.store.ensures
    ∙ ap (λ (m : ℕ). words 8 m (bits (m * 8) c.group_number.result)) (length-take-le 8 out room)
    ∙ ap (λ (x : ℕ). words 8 8 (bits 64 x)) c.group_number.ensures
    ∙ number_bytes c.args.self fit)
    ∙ sym (chosen _ _ _ (ap₂ (λ (a b : Bool). a && b) fit (le-leb 8 (length out) room)))
