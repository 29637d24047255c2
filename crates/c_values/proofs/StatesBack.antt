-- The assembler's states go to C and back unchanged.
use mathlib.Core.Path.{◌≡◌, refl, sym}
use mathlib.Core.Bool.{Bool, true, false}
use lib.Dec.{eqb}
use borrow.Author.Tests.{eqb-true}
use Rattle.bits.proofs.Choice.{and_left, passed_over}
use Rattle.assembler.specs.declared.Partial.{Partial}
use Rattle.assembler.specs.declared.Assembler.{Assembler}
use Rattle.assembler.specs.declared.Assembler.TheVariants.{Empty, Started}
use Rattle.assembler.specs.Fits.{fits}
use Rattle.assembler.proofs.States.{opened}
use Rattle.word.specs.Compose.{is_index}
use Rattle.c_values.specs.States.{blank, state_from, state_of}

no_index : (p : Partial) (b : Bool) → is_index p.ci ≡ true → blank p ≡ b → b ≡ false
unfolding is_index
no_index p false i e = refl
no_index p true i e = sym (rw (eqb-true p.ci 0 (and_left (eqb p.ci 0) _ e)) at i)

-- every state that calls reach
pub state_back : (a : Assembler) → fits a ≡ true → state_from (state_of a) ≡ a
unfolding fits
state_back Empty h = refl
state_back (Started p) h = passed_over _ _ _ (no_index p (blank p) (opened p h).index refl)
