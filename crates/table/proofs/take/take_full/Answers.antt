-- By the choice.
use Prim.Native.Nat.{ℕ, ◌/◌, ◌<◌}
use mathlib.Core.Path.{◌≡◌, sym, ap, subst, ◌∙◌}
use mathlib.Core.Bool.{Bool, true, false, not}
use Rattle.std.specs.Prelude.{Ok}
use Rattle.refusal.specs.Checks.{must}
use Rattle.refusal.specs.declared.Refusal.TheVariants.{NoRoom}
use Rattle.lent.specs.Records.{records}
use lib.ListN.{length}
use Rattle.bits.proofs.Choice.{chosen, passed_over}
use Rattle.record.specs.Layout.{record_size}
use Rattle.record_report.specs.Made.{record_of}
use Rattle.table.specs.declared.Answer.TheVariants.{Dropped}
use Rattle.table.specs.Records.{soonest, stored}
use Rattle.table.specs.Take.{keeps}
use Rattle.table.proofs.Soonest.{soonest_ends}
use Rattle.table.proofs.take.take_full.Goals as goal

pub put_at-requires : goal.put_at-requires
put_at-requires c =
    let t = c.args.t.now in
    (c.requires.0, subst (λ (n : ℕ). n < length t / record_size) (sym c.find_soonest-place.ensures) (soonest_ends t c.requires.1).0, c.requires.2)

pub returns-in-Keep : goal.returns-in-Keep
returns-in-Keep c =
    let keep : keeps c.args.full ≡ true = ap keeps c.in-Keep.is in
    record { value = sym (ap (λ (b : Bool). must (not b) NoRoom (Ok (Dropped (soonest (records c.args.t.now))))) keep); t_after = sym (chosen _ _ _ keep) }

pub returns-in-Drop : goal.returns-in-Drop
returns-in-Drop c =
    let a = c.args in
    let drop : keeps a.full ≡ false = ap keeps c.in-Drop.is in
    let place = c.find_soonest-place.ensures in
    record {
      value = ap (λ (n : ℕ). Ok (Dropped n)) place ∙ sym (ap (λ (b : Bool). must (not b) NoRoom (Ok (Dropped (soonest (records a.t.now))))) drop);
      t_after = c.put_at.ensures ∙ ap (λ (n : ℕ). stored a.t.now n (record_of a.kept a.classes.0)) place ∙ sym (passed_over _ _ _ drop);
    }
