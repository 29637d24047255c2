-- A state passes the code's test exactly if some list of calls from the empty state gives it.
use mathlib.Core.Path.{◌≡◌, refl, sym, ap, subst, ◌∙◌}
use mathlib.Core.Logic.{◌↔◌}
use mathlib.Core.Bool.{true}
use Rattle.transmission.proofs.Reached as abstract
use Rattle.assembler.specs.declared.Assembler.{Assembler}
use Rattle.assembler.specs.declared.Assembler.TheVariants.{Empty}
use Rattle.assembler.specs.Reading.{Reads, rules}
use Rattle.assembler.specs.State.{state_of, assembler_of}
use Rattle.assembler.specs.Fits.{fits}
use Rattle.assembler.specs.Calls.{after, Reached}
use Rattle.assembler.proofs.States.{assembler_state, state_reachable}
use Rattle.assembler.proofs.CallSteps.{after-fits, same_after}
use Rattle.assembler.proofs.Refusals.{by_words}

pub reached : (read : Reads) (a : Assembler) → fits a ≡ true ↔ Reached read a
unfolding fits state_of
reached read a = (
  λ e.
      let w = (abstract.reached (rules read) (state_of a)).0 (state_reachable a e) in
      by_words read Empty a w.0
      (sym (assembler_state (after read Empty w.0) (after-fits read w.0 Empty refl)) ∙ ap assembler_of (same_after read w.0 Empty refl ∙ w.1) ∙ assembler_state a e),
  λ w. subst (λ (b : Assembler). fits b ≡ true) w.2 (after-fits read w.0 Empty refl),
)
