-- Demand 3 of the abstract assembler, whatever the rules by which messages are read.
use Prim.Native.Nat.{ℕ, zero, suc, ◌≤◌}
use native.Mathlib.Omega.{arith}
use mathlib.Core.Path.{◌≡◌, refl, sym, ap, ap₂, subst, ◌∙◌}
use mathlib.Core.Bool.{true, ◌&&◌}
use mathlib.Core.List.{List, [], ◌∷◌, ◌++◌}
use lib.ListN.{length}
use Rattle.transmission.specs.Reading.{Rules}
use Rattle.transmission.specs.State.{State, empty, started}
use Rattle.transmission.specs.Step.{step}
use Rattle.transmission.specs.Calls.{answers, reports_among, reports_to}
use Rattle.transmission.specs.Message.{Message, WellFormed, lost, OfIndex}
use Rattle.transmission.specs.Transmission.{Spaced, arrivals, due_reports}
use Rattle.transmission.specs.Demand3.{All, Claim, Demand3}
use Rattle.transmission.proofs.Heard.{heard, only_user_words}
use Rattle.transmission.proofs.Steps.{Foreign}
use Rattle.transmission.proofs.OneMessage.{one_message}
use Rattle.transmission.proofs.Losses.{lost_first, NeverLost, never_lost}

-- no message of index ci comes before another one of which a group arrives
abbrev Safe : {R : Type 0} → ℕ → List (Message R) → Type 0
Safe ci [] = Unit {0}
Safe ci (m ∷ sent) = (OfIndex ci m.groups → ⊥) × (lost m.groups ≡ true → Safe ci sent)

-- the message that is open, if any, has no such message to come
abbrev Ready : {R : Type 0} → State → List (Message R) → Type 0
Ready empty sent = Unit {0}
Ready (started ci head last contents) sent = Safe ci sent

-- k against k: k other messages stand before the next one of index ci, and these are not all lost
safe : {R : Type 0} (k ci : ℕ) (sent : List (Message R))
    → ((between behind : List (Message R)) (b : Message R) → OfIndex ci b.groups → sent ≡ between ++ (b ∷ behind) → k ≤ length between)
    → (lost_first k sent ≡ true → ⊥) → Safe ci sent
unfolding lost_first
safe zero ci sent far heard = absurd (heard refl)
safe (suc k) ci [] far heard = tt
safe {R} (suc k) ci (m ∷ sent) far heard = (
  λ e. let none = far [] sent m e refl in omega arith,
  λ l. safe k ci sent
      (λ between behind b i e. let more = far (m ∷ between) behind b i (ap (λ (x : List (Message R)). m ∷ x) e) in omega arith)
      (λ f. heard (ap₂ ◌&&◌ l f)),
)

foreign : {R : Type 0} (s : State) (m : Message R) (sent : List (Message R)) → Ready s (m ∷ sent) → (ci : ℕ) → OfIndex ci m.groups → Foreign ci s
foreign empty m sent h ci i = tt
foreign (started index head last contents) m sent h ci i = λ e. h.0 (subst (λ (x : ℕ). OfIndex x m.groups) (sym e) i)

ready : {R : Type 0} (s : State) (m : Message R) (sent : List (Message R)) → Ready s (m ∷ sent) → lost m.groups ≡ true → Ready s sent
ready empty m sent h l = tt
ready (started ci head last contents) m sent h l = h.1 l

module _ {R E : Type 0} (rules : Rules R E) where
  transmitted : (k : ℕ) (sent : List (Message R)) → All (λ m. WellFormed rules m.groups m.report) sent → Spaced k sent → NeverLost k sent
      → (s : State) → Ready s sent → heard rules s (arrivals sent) ≡ due_reports sent
  unfolding arrivals due_reports answers reports_among
  transmitted k [] formed apart bound s r = refl
  transmitted k (m ∷ sent) formed apart bound s r =
      let bound' : NeverLost k sent = λ before after e. bound (m ∷ before) after (ap (λ (l : List (Message R)). m ∷ l) e) in
      let apart' : Spaced k sent = λ ci before between after a b ia ib e. apart ci (m ∷ before) between after a b ia ib (ap (λ (l : List (Message R)). m ∷ l) e) in
      let rest = transmitted k sent formed.1 apart' bound' in
      one_message rules (arrivals sent) (due_reports sent) (rest empty tt) s formed.0 (foreign s m sent r) (λ l. rest s (ready s m sent r l))
      (λ ci i head last contents. rest (started ci head last contents)
      (safe k ci sent (λ between after b ib e. apart ci [] between after m b i ib (ap (λ (l : List (Message R)). m ∷ l) e)) (bound' [] sent refl)))

  -- where as many messages stand between two of one index as no loss holds
  pub claim : (k : ℕ) → Claim rules k k (reports_to (step rules) empty)
  claim k sent words formed apart bound e =
      only_user_words rules words empty
      ∙ ap (heard rules empty) e
      ∙ transmitted k sent formed apart (never_lost k sent bound) empty tt

  pub demand3 : Demand3 rules (reports_to (step rules) empty)
  demand3 = claim 5
