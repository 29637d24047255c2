-- Refusal 9 comes before all else, and leaves the state: calls with numbers that are no words change nothing.
use Prim.Native.Nat.{ℕ, ◌≤◌, ◌<◌}
use mathlib.Core.Path.{◌≡◌, refl, sym, ap, ◌∙◌}
use mathlib.Core.Bool.{Bool, true, false, cond}
use mathlib.Core.List.{List, [], ◌∷◌}
use lib.Dec.{ltb}
use borrow.Author.Tests.{ltb-true, ltb-false, le-leb}
use Rattle.bits.proofs.Choice.{passed_over}
use Rattle.word.specs.Format.{limit}
use Rattle.word.specs.Kind.{kind_of}
use Rattle.std.specs.Prelude.{Err}
use Rattle.refusal.specs.declared.Refusal.TheVariants.{Unfit}
use Rattle.report.specs.declared.Unreadable.TheVariants.{Refused}
use Rattle.transmission.specs.Step.{step_by, step}
use Rattle.transmission.specs.Demand3.{All}
use Rattle.assembler.specs.declared.Assembler.{Assembler}
use Rattle.assembler.specs.declared.Step.{Step}
use Rattle.assembler.specs.Reading.{Reads}
use Rattle.assembler.specs.Fits.{fits}
use Rattle.assembler.specs.Answers.{leaving}
use Rattle.assembler.specs.Step.{step_of}
use Rattle.assembler.specs.Calls.{after}
use Rattle.assembler.proofs.CallSteps.{kept}

-- the words among the numbers
words_among : List ℕ → List ℕ
words_among [] = []
words_among (n ∷ words) = cond (ltb n limit) (n ∷ words_among words) (words_among words)

are_words : (words : List ℕ) → All (λ n. n < limit) (words_among words)
unfolding words_among
are_words [] = tt
are_words (n ∷ words) = by_size (ltb n limit) refl (are_words words)
  where
    by_size : (b : Bool) → ltb n limit ≡ b → All (λ m. m < limit) (words_among words) → All (λ m. m < limit) (cond b (n ∷ words_among words) (words_among words))
    by_size true e rest = (ltb-true n limit e, rest)
    by_size false e rest = rest

module _ (read : Reads) where
  -- a state that no calls reach
  pub unreached_refused : (a : Assembler) (n : ℕ) → fits a ≡ false → step_of read a n ≡ leaving a (Err (Refused Unfit))
  unfolding step_of
  unreached_refused a n e = passed_over _ _ _ e

  -- a number of 2^37 or more, from any state
  pub no_word-refused : (a : Assembler) (n : ℕ) → limit ≤ n → step_of read a n ≡ leaving a (Err (Refused Unfit))
  unfolding step_of step step_by kind_of
  no_word-refused a n h = by_state (fits a) refl
    where
      by_state : (b : Bool) → fits a ≡ b → step_of read a n ≡ leaving a (Err (Refused Unfit))
      by_state false e = unreached_refused a n e
      by_state true e = rw (e, le-leb limit n h) (sym (kept a e (Err (Refused Unfit))))

  only_words : (words : List ℕ) (a : Assembler) → after read a (words_among words) ≡ after read a words
  unfolding words_among after
  only_words [] a = refl
  only_words (n ∷ words) a = by_size (ltb n limit) refl (only_words words a) (only_words words (step_of read a n).next)
    where
      by_size : (b : Bool) → ltb n limit ≡ b → after read a (words_among words) ≡ after read a words → after read (step_of read a n).next (words_among words) ≡ after read (step_of read a n).next words
          → after read a (cond b (n ∷ words_among words) (words_among words)) ≡ after read (step_of read a n).next words
      by_size true e left taken = taken
      by_size false e left taken = left ∙ ap (λ (s : Step). after read s.next words) (sym (no_word-refused a n (ltb-false n limit e)))

  -- a list of words gives whatever state a list of numbers gives
  pub by_words : (a b : Assembler) (words : List ℕ) → after read a words ≡ b → (words : List ℕ) × All (λ n. n < limit) words × (after read a words ≡ b)
  by_words a b words e = (words_among words, are_words words, only_words words a ∙ e)
