-- What the call for an expiry answers of a life, an offset and a minute that fit.
use Prim.Native.Nat.{ℕ, ◌≤◌, ◌<◌}
use native.Mathlib.Omega.{arith}
use mathlib.Core.Path.{◌≡◌, refl}
use mathlib.Core.Bool.{Bool, true, false}
use lib.IntN.{ℤ}
use lib.Dec.{eqb, leb}
use borrow.Author.Tests.{eqb-true, eqb-false, le-leb}
use Rattle.std.specs.Prelude.{Ok}
use Rattle.refusal.specs.declared.Refusal.TheVariants.{Malformed, Unfit, WrongMinute}
use Rattle.refusal.specs.Checks.{must}
use Rattle.refusal.specs.Number.{refusal_in}
use Rattle.clock.specs.declared.Utc.{Utc}
use Rattle.clock.specs.Time.{local_of, expiry_of, offset_fits, longest_life, largest}
use Rattle.clock.specs.Expiry.{expiry_answer}
use Rattle.clock.specs.Answers.{minute_of}
use Rattle.clock.proofs.Midnight.{ahead, until_midnight, after_life}

-- checks that are all passed, and checks whose answer tells no refusal
all_passed : (m : Utc) (a b c : Bool) → a ≡ true → b ≡ true → c ≡ true → must a Malformed (must b Unfit (must c WrongMinute (Ok m))) ≡ Ok m
all_passed m true true true e f g = refl
all_passed m true true false e f g = absurd (cc)
all_passed m true false c e f g = absurd (cc)
all_passed m false b c e f g = absurd (cc)

told : (m : Utc) (a b c : Bool) → refusal_in (must a Malformed (must b Unfit (must c WrongMinute (Ok m)))) ≡ 0 → minute_of (must a Malformed (must b Unfit (must c WrongMinute (Ok m)))) ≡ m.0
told m true true true e = refl
told m true true false e = absurd (omega arith)
told m true false c e = absurd (omega arith)
told m false b c e = absurd (omega arith)

module _ (minute : ℕ) (lto : ℤ) (life : ℕ) where
  module _ (short : life ≤ longest_life) (m : minute ≤ largest) where
    pub ends_at : offset_fits lto ≡ true → expiry_answer minute lto life ≡ Ok (record { 0 = expiry_of minute lto life })
    unfolding expiry_answer
    ends_at fits = all_passed _ _ _ _ (le-leb life longest_life short) fits (le-leb minute largest m)

    -- what ends, ends after minute 0 and at a minute of 32 bits
    pub expiry-fits : (1 ≤ expiry_of minute lto life) × (expiry_of minute lto life < 0x1_0000_0000)
    expiry-fits = by_test (eqb life 0) refl
      where
        by_test : (b : Bool) → eqb life 0 ≡ b → (1 ≤ expiry_of minute lto life) × (expiry_of minute lto life < 0x1_0000_0000)
        by_test true e =
            let ends = until_midnight minute lto life (eqb-true life 0 e) in
            (omega (arith, ends, ahead (local_of minute lto)), omega (arith, ends, ahead (local_of minute lto)))
        by_test false e = let some = eqb-false life 0 e in let ends = after_life minute lto life some in (omega (arith, ends), omega (arith, ends))

  -- by its number: where nothing is refused, the minute is that of the definition
  pub minute_told : refusal_in (expiry_answer minute lto life) ≡ 0 → minute_of (expiry_answer minute lto life) ≡ expiry_of minute lto life
  unfolding expiry_answer
  minute_told h = told _ (leb life longest_life) (offset_fits lto) (leb minute largest) h
