-- A shift drops the first bits.
use Prim.Native.Nat.{◌-◌}
use native.Mathlib.Omega.{arith}
use mathlib.Core.Path.{refl, ap, ◌∙◌}
use Rattle.content.specs.Halves.{remaining}
use Rattle.content.specs.declared.content.Content.{Content}
use Rattle.content.proofs.Remaining.{drop-remaining}
use Rattle.content.proofs.rest.Rest.tail.Goals as goal

pub returns : goal.returns
returns c =
    let a = c.args in (
      ap (λ (b : Content). remaining (record { bits = b; left = a.self.left - a.w })) c.shifted_left.ensures
          ∙ drop-remaining a.self a.w (omega arith) (omega arith),
      refl,
    )
