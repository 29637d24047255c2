-- A well-formed message of which every group arrives: nothing yet at each word but the last, there its report, and then no message is open.
use Prim.Native.Nat.{ℕ, suc, ◌-◌}
use native.Mathlib.Omega.{arith}
use mathlib.Core.Path.{◌≡◌, ap, ◌∙◌}
use mathlib.Core.List.{List, [], ◌∷◌, ◌++◌, map, append-nil, append_assoc}
use lib.Dec.{eqb-suc-zero}
use lib.ListN.{length, replicate}
use Rattle.std.specs.Prelude.{Result, Ok}
use Rattle.word.specs.declared.Head.{Head}
use Rattle.word.specs.declared.Word.TheVariants.{First}
use Rattle.transmission.specs.Reading.{Rules}
use Rattle.transmission.specs.State.{State, empty, started}
use Rattle.transmission.specs.Step.{Answer, nothing, report, Step, completed, taken, step_by, step}
use Rattle.transmission.specs.Calls.{answers, after}
use Rattle.transmission.specs.Message.{Group, Falling, end, next, WellFormed, alone, joined}
use Rattle.transmission.proofs.Formed.{still_to_come}
use Rattle.transmission.proofs.Steps.{in_turn_lem, marked_in_turn, taken_open, step-kind, step-later}

-- the words of groups
abbrev pub words_in : List Group → List ℕ
words_in = map (λ g. g.word)

-- nothing n times, and then a report
abbrev pub at_last : {R E : Type 0} → ℕ → R → List (Result (Answer R) E)
at_last n r = replicate n (Ok nothing) ++ (Ok (report r) ∷ [])

module _ {R E : Type 0} (rules : Rules R E) where
  -- the answers to words, and the state after them; the same after a step
  abbrev Run : Type 0
  Run = List (Result (Answer R) E) × State

  abbrev run : State → List ℕ → Run
  run s words = (answers (step rules) s words, after (step rules) s words)

  abbrev run_after : Step R E → List ℕ → Run
  run_after t words = (t.answer ∷ answers (step rules) t.next words, after (step rules) t.next words)

  run_step : (s : State) (n : ℕ) (words : List ℕ) {t : Step R E} → step rules s n ≡ t → run s (n ∷ words) ≡ run_after t words
  unfolding answers after
  run_step s n words e = ap (λ (t : Step R E). run_after t words) e

  first-nothing : (x : Run) (n : ℕ) (r : R) → x ≡ (at_last n r, empty) → ◌≡◌ {A = Run} (Ok nothing ∷ x.0, x.1) (at_last (suc n) r, empty)
  first-nothing x n r e = ap (λ (y : Run). let z : Run = (Ok nothing ∷ y.0, y.1) in z) e

  module _ (ci : ℕ) (head : Head) (r : R) where
    -- from a later group taken on
    go_on : {gsi : ℕ} {cs : List ℕ} {gs : List Group} (c : ℕ) (contents : List ℕ) → Falling ci gsi cs gs → rules.multi head ((c ∷ contents) ++ cs) ≡ Ok r
        → run_after (taken rules ci head gsi (c ∷ contents)) (words_in gs) ≡ (at_last gsi r, empty)
    unfolding taken completed answers after
    go_on c contents end e =
        let reads : rules.multi head (c ∷ contents) ≡ Ok r = rw append-nil at e in
        rw reads
    go_on c contents (next {g = g} {gsi = gsi} {c = d} {cs = cs} {gs = gs} k f) e =
        ap (λ (t : Step R E). run_after t (words_in (g ∷ gs))) (taken_open rules ci head (suc gsi) (c ∷ contents) (eqb-suc-zero gsi))
        ∙ first-nothing _ gsi r
        (run_step (started ci head (suc gsi) (c ∷ contents)) g.word (words_in gs) (step-later rules _ g.word k (in_turn_lem rules ci head gsi c contents d))
        ∙ go_on c (contents ++ d ∷ []) f (rw append_assoc e))

  pub whole-message : (s : State) {gs : List Group} {r : R} → WellFormed rules gs r → run s (words_in gs) ≡ (at_last (length gs - 1) r, empty)
  unfolding step_by answers after
  whole-message s (alone {g = g} k) = run_step s g.word [] (step-kind rules s g.word _ k)
  whole-message s {r = r} (joined {f = f} {g = g} {ci = ci} {gsi = gsi} {c = c} {head = head} {gs = gs} k k2 falling reads) =
      let count : suc gsi ≡ length (f ∷ g ∷ gs) - 1 = let all = still_to_come falling in omega arith in
      run_step s f.word (words_in (g ∷ gs)) (step-kind rules s f.word (First ci head) k)
      ∙ first-nothing _ gsi r
      (run_step (started ci head 0 []) g.word (words_in gs) (step-later rules _ g.word k2 (marked_in_turn rules ci head gsi c)) ∙ go_on ci head r c [] falling reads)
      ∙ ap (λ (n : ℕ). let z : Run = (at_last n r, empty) in z) count
