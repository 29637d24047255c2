-- The states that calls reach are exactly those of `reachable`; demand 3 of the calls, which refuse every other state.
use Prim.Native.Nat.{ℕ, suc, ◌+◌, ◌≤◌, ◌<◌, ◌^◌}
use native.Mathlib.Nat.{add-zero}
use native.Mathlib.Omega.{arith}
use mathlib.Core.Path.{◌≡◌, refl, sym, ap, ap₂, subst, subst₂, ◌∙◌}
use mathlib.Core.Logic.{◌↔◌}
use mathlib.Core.Bool.{true}
use mathlib.Core.List.{List, [], ◌∷◌, ◌++◌, append-nil, append_assoc}
use lib.Dec.{leb, ltb}
use lib.ListN.{length}
use borrow.Author.Tests.{eqb-true, ne_eqb, leb-true}
use Rattle.std.specs.Prelude.{Result}
use Rattle.bits.proofs.Choice.{and_left, and_right}
use Rattle.word.specs.declared.Head.{Head}
use Rattle.word.specs.declared.Word.{Word}
use Rattle.word.specs.declared.Word.TheVariants.{First, Later}
use Rattle.word.specs.Kind.{kind_of}
use Rattle.word.specs.Compose.{is_index}
use Rattle.transmission.specs.Reading.{Rules}
use Rattle.transmission.specs.State.{State, empty, started}
use Rattle.transmission.specs.Step.{Answer, Step, step_by, step}
use Rattle.transmission.specs.Calls.{answers, after, reports_among, reports_to}
use Rattle.transmission.specs.Reachable.{count_fits}
use Rattle.transmission.specs.Demand3.{Demand3}
use Rattle.transmission.proofs.Reachable.{contents_fit, reachable, call, Reached}
use Rattle.transmission.proofs.Words.{first_word, later-word}
use Rattle.transmission.proofs.Steps.{in_turn_lem, marked_in_turn, taken_open, step-kind}
use Rattle.transmission.proofs.Kept.{Fit, fit, reachable_kept, after_kept}
use Rattle.transmission.proofs.Demand3.{demand3}

module _ {R E : Type 0} (rules : Rules R E) where
  -- some words lead from s to t
  abbrev Leads : State → State → Type 0
  Leads s t = (words : List ℕ) × (after (step rules) s words ≡ t)

  lead : (s t u : State) (w : Word) (n : ℕ) → kind_of n ≡ w → (step_by rules s w).next ≡ t → Leads t u → Leads s u
  unfolding after
  lead s t u w n k e l = (n ∷ l.0, ap (λ (x : State). after (step rules) x l.0) (ap (λ (x : Step R E). x.next) (step-kind rules s n w k) ∙ e) ∙ l.1)

  -- the groups after the second
  lead-rest : (ci : ℕ) (head : Head) (last gsi d : ℕ) (contents rest : List ℕ) → is_index ci ≡ true → contents_fit rest ≡ true → 1 ≤ gsi → last ≡ gsi + length rest → last < 4
      → Leads (started ci head last (d ∷ contents)) (started ci head gsi (d ∷ (contents ++ rest)))
  unfolding contents_fit after step_by
  lead-rest ci head last gsi d contents [] i f more e few = ([], ap₂ (λ (x : ℕ) (l : List ℕ). started ci head x (d ∷ l)) (e ∙ add-zero gsi) (sym (append-nil contents)))
  lead-rest ci head last gsi d contents (c ∷ rest) i f more e few =
      let here = gsi + length rest in
      let word = later-word ci 0 here c i (omega arith) (omega arith) (and_left (ltb c (2 ^ 28)) _ f) in
      let others = lead-rest ci head here gsi d (contents ++ c ∷ []) rest i (and_right (ltb c (2 ^ 28)) _ f) more refl (omega arith) in
      let next = in_turn_lem rules ci head here d contents c ∙ taken_open rules ci head here (d ∷ (contents ++ c ∷ [])) (ne_eqb here 0 (λ z. omega arith)) in
      let before : last ≡ suc here = omega arith in
      subst₂ (λ (x : ℕ) (l : List ℕ). Leads (started ci head x (d ∷ contents)) (started ci head gsi (d ∷ l))) (sym before) (append_assoc contents (c ∷ []) rest)
      (lead _ _ _ (Later ci 0 here c) word.0 word.1 (ap (λ (x : Step R E). x.next) next) others)

  -- the second group
  lead_contents : (ci : ℕ) (head : Head) (gsi : ℕ) (contents : List ℕ) → Fit ci head gsi contents → Leads (started ci head 0 []) (started ci head gsi contents)
  unfolding contents_fit count_fits after step_by
  lead_contents ci head gsi [] f = ([], ap (λ (x : ℕ). started ci head x []) (sym (eqb-true gsi 0 f.count)))
  lead_contents ci head gsi (c ∷ rest) f =
      let more = leb-true 1 gsi (and_left (leb 1 gsi) _ f.count) in
      let few = leb-true (suc (length rest) + gsi) 4 (and_right (leb 1 gsi) _ f.count) in
      let here = gsi + length rest in
      let word = later-word ci 1 here c f.index (omega arith) (omega arith) (and_left (ltb c (2 ^ 28)) _ f.each) in
      let next = marked_in_turn rules ci head here c ∙ taken_open rules ci head here (c ∷ []) (ne_eqb here 0 (λ z. omega arith)) in
      lead _ _ _ (Later ci 1 here c) word.0 word.1 (ap (λ (x : Step R E). x.next) next)
      (lead-rest ci head here gsi c [] rest f.index (and_right (ltb c (2 ^ 28)) _ f.each) more refl (omega arith))

  lead_to : (s : State) → reachable s ≡ true → Leads empty s
  unfolding after step_by
  lead_to empty r = ([], refl)
  lead_to (started ci head gsi contents) r =
      let f = fit r in
      let word = first_word ci head f.index f.ranges in
      lead _ _ _ (First ci head) word.0 word.1 refl (lead_contents ci head gsi contents f)

  -- a call from such a state is the step, so that calls from the empty state are steps
  call_step : (s : State) (n : ℕ) → reachable s ≡ true → call rules s n ≡ step rules s n
  unfolding call
  call_step s n r = rw r

  pub same-answers : (words : List ℕ) (s : State) → reachable s ≡ true → answers (call rules) s words ≡ answers (step rules) s words
  unfolding answers
  same-answers [] s r = refl
  same-answers (n ∷ words) s r =
      rw (call_step s n r) (ap (λ (l : List (Result (Answer R) E)). (step rules s n).answer ∷ l) (same-answers words (step rules s n).next (reachable_kept rules s n r)))

  pub same_after : (words : List ℕ) (s : State) → reachable s ≡ true → after (call rules) s words ≡ after (step rules) s words
  unfolding after
  same_after [] s r = refl
  same_after (n ∷ words) s r = rw (call_step s n r) (same_after words (step rules s n).next (reachable_kept rules s n r))

  -- exactly these states are reached
  pub reached : (s : State) → reachable s ≡ true ↔ Reached (call rules) s
  unfolding reachable
  reached s = (
    λ r. let words = lead_to s r in (words.0, same_after words.0 empty refl ∙ words.1),
    λ w. subst (λ (t : State). reachable t ≡ true) (sym (same_after w.0 empty refl) ∙ w.1) (after_kept rules w.0 empty refl),
  )

  pub demand3_of-calls : Demand3 rules (reports_to (call rules) empty)
  unfolding reachable
  demand3_of-calls sent words formed apart bound e = ap reports_among (same-answers words empty refl) ∙ demand3 rules sent words formed apart bound e
