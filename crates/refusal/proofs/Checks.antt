-- Checks in order: what holds where nothing is refused, and what a refusal leaves.
use Rattle.std.specs.Prelude.{◌≡◌, Bool, true, false, Result, Ok, Err, cond}
use Rattle.std.specs.Result.{result_and}
use Rattle.std.proofs.Common.{refl}
use Rattle.refusal.specs.declared.Refusal.{Refusal}
use Rattle.refusal.specs.Checks.{must}

module _ {A : Type 0} where
  pub passed : (t : Bool) (e : Refusal) (later : Result A Refusal) (a : A) → must t e later ≡ Ok a → (t ≡ true) × (later ≡ Ok a)
  passed true e later a h = (refl, h)
  passed false e later a h = absurd (cc)

  -- a check refuses, or the later ones say
  pub by_check : (P : Result A Refusal → Type 0) (t : Bool) (e : Refusal) (later : Result A Refusal) → (t ≡ false → P (Err e)) → P later → P (must t e later)
  by_check P true e later fails passes = passes
  by_check P false e later fails passes = fails refl

  -- what comes after checks that give nothing, and after a refusal
  module _ {B : Type 0} where
    pub second : (r : Result A Refusal) (s : Result B Refusal) (a : A) → r ≡ Ok a → result_and r s ≡ s
    second (Ok x) s a h = refl
    second (Err e) s a h = absurd (cc)

    pub first : (r : Result A Refusal) (s : Result B Refusal) (e : Refusal) → r ≡ Err e → result_and r s ≡ Err e
    first (Ok x) s e h = absurd (cc)
    first (Err d) s e h = cc

    pub neither : (r : Result A Refusal) (s : Result B Refusal) (b : B) → result_and r s ≡ Ok b → ((a : A) × (r ≡ Ok a)) × (s ≡ Ok b)
    neither (Ok x) s b h = ((x, refl), h)
    neither (Err e) s b h = absurd (cc)

-- a writer that tests what it is given, and then the room: where it writes, what it was given passed, and n is what it writes
pub written_passed : {A : Type 0} (fits room : Bool) (k n : A) (a b : Refusal) → must fits b (must room a (Ok k)) ≡ Ok n → (fits ≡ true) × (k ≡ n)
written_passed true true k n a b e = (refl, cc)
written_passed true false k n a b e = absurd (cc)
written_passed false room k n a b e = absurd (cc)
