-- The words of one well-formed message are whole messages.
use Prim.Native.Nat.{ℕ, zero, suc, ◌-◌}
use mathlib.Core.Path.{◌≡◌, refl, sym, ap, subst, ◌∙◌}
use mathlib.Core.Bool.{true, false, false≢true}
use mathlib.Core.List.{List, [], ◌∷◌, ◌++◌, map}
use lib.ListN.{length, drop, replicate}
use Rattle.word.specs.Kind.{kind_of}
use Rattle.report.specs.declared.Report.{Report}
use Rattle.report.specs.declared.Unreadable.{Unreadable}
use Rattle.transmission.specs.Message.{Group, Falling, end, next, WellFormed, alone, joined}
use Rattle.transmission.specs.Demand3.{All}
use Rattle.transmission.proofs.WholeMessage.{words_in}
use Rattle.std.specs.Prelude.{Result, Ok, IsOk}
use Rattle.assembler.specs.declared.Assembler.TheVariants.{Empty}
use Rattle.assembler.specs.declared.Answer.{Answer}
use Rattle.assembler.specs.declared.Answer.TheVariants as answer
use Rattle.assembler.specs.declared.Step.{Step}
use Rattle.assembler.specs.Reading.{Reads, rules}
use Rattle.assembler.specs.Calls.{calls, after}
use Rattle.assembler.proofs.OneMessage.{one_message}
use Rattle.messages.specs.Messages.{begins}
use Rattle.messages.specs.Whole.{Whole}

-- an answer that is no refusal
abbrev Taken : Result Answer Unreadable → Type 0
Taken x = IsOk x

-- nothing yet, and at last a report
taken_at_last : (k : ℕ) (r : Report) → All Taken (replicate k (Ok answer.Nothing) ++ (Ok (answer.Report r) ∷ []))
taken_at_last zero r = (refl, tt)
taken_at_last (suc k) r = (refl, taken_at_last k r)

all_steps : (steps : List Step) → All Taken (map (λ s. s.answer) steps) → All (λ s. Taken s.answer) steps
all_steps [] t = tt
all_steps (s ∷ steps) t = (t.0, all_steps steps t.1)

-- words that begin no message
abbrev Goes : List ℕ → Type 0
Goes = All (λ n. begins (kind_of n) ≡ false)

goes_at : (before : List ℕ) (n : ℕ) (rest : List ℕ) → Goes (before ++ n ∷ rest) → begins (kind_of n) ≡ false
goes_at [] n rest g = g.0
goes_at (m ∷ before) n rest g = goes_at before n rest g.1

falling_goes : {ci gsi : ℕ} {cs : List ℕ} {gs : List Group} → Falling ci gsi cs gs → Goes (words_in gs)
unfolding begins
falling_goes end = tt
falling_goes (next k f) = (ap begins k, falling_goes f)

module _ (read : Reads) where
  -- only the first word may begin a message
  first-begins : (w : ℕ) (ws : List ℕ) → Goes ws → (before : List ℕ) (n : ℕ) (rest : List ℕ) → w ∷ ws ≡ before ++ n ∷ rest → begins (kind_of n) ≡ true → after read Empty before ≡ Empty
  unfolding after
  first-begins w ws g [] n rest e b = refl
  first-begins w ws g (m ∷ before) n rest e b = absurd (false≢true (sym (goes_at before n rest (subst Goes (ap (drop 1) e) g)) ∙ b))

  none_dropped : {gs : List Group} {r : Report} → WellFormed (rules read) gs r
      → (before : List ℕ) (n : ℕ) (rest : List ℕ) → words_in gs ≡ before ++ n ∷ rest → begins (kind_of n) ≡ true → after read Empty before ≡ Empty
  unfolding begins
  none_dropped (alone {g = g} k) = first-begins g.word [] tt
  none_dropped (joined {f = f} {g = g} {gs = gs} k k2 falling reads) = first-begins f.word (words_in (g ∷ gs)) (ap begins k2, falling_goes falling)

  pub formed_whole : {gs : List Group} {r : Report} → WellFormed (rules read) gs r → Whole read (words_in gs)
  formed_whole {gs} {r} formed =
      let back = one_message read formed in
      record {
        taken = all_steps (calls read Empty (words_in gs)) (subst (All Taken) (sym back.answers) (taken_at_last (length (words_in gs) - 1) r));
        kept = none_dropped formed;
        ended = back.ended;
      }
