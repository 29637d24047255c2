-- Assemblers of which demand 3 is false: one that joins by continuity index alone, one that keeps an old head open, one that falls silent
-- after its first report, one that gives a fixed report, and one that refuses everything.
use Prim.Native.Nat.{ℕ}
use mathlib.Core.Path.{◌≡◌, refl, ap}
use mathlib.Core.Bool.{true, false, cond}
use mathlib.Core.List.{List, [], ◌∷◌, ◌++◌, map}
use lib.Dec.{eqb, lit<}
use lib.ListN.{length}
use native.Mathlib.Omega.{arith}
use Rattle.std.specs.Prelude.{Result, Ok, Err}
use Rattle.refusal.specs.declared.Refusal.{Refusal}
use Rattle.word.specs.declared.Word.{Word}
use Rattle.word.specs.declared.Word.TheVariants.{Single, First, Later, Tuning, Administration, Index7, Beyond}
use Rattle.word.specs.Kind.{kind_of}
use Rattle.word.specs.Samples.{single101, first401, later401}
use Rattle.transmission.specs.State.{State, empty, started}
use Rattle.transmission.specs.Step.{Answer, nothing, report, tuning, administration, Step, strayed, taken, step_by, step}
use Rattle.transmission.specs.Calls.{answers, reports_among, reports_to}
use Rattle.transmission.specs.Demand3.{Demand3}
use Rattle.transmission.proofs.FewLost.{few-lost}
use Rattle.transmission.proofs.Spacing.{by_test}
use Rattle.transmission.proofs.Samples.{computing, Plain, plain_rules, sent1, sent2, sent3, formed1, formed2, formed3}

-- a later group goes to the open message of its index, whatever its mark and GSI
unfoldable pub later_by_index : State → ℕ → ℕ → ℕ → Step Plain Refusal
later_by_index empty ci gsi content = strayed plain_rules
later_by_index (started index head last contents) ci gsi content = cond (eqb index ci) (taken plain_rules ci head gsi (contents ++ content ∷ [])) (strayed plain_rules)

unfoldable pub by_index_alone : State → Word → Step Plain Refusal
by_index_alone s (Single duration diversion head) = step_by plain_rules s (Single duration diversion head)
by_index_alone s (First ci head) = step_by plain_rules s (First ci head)
by_index_alone s (Later ci second gsi content) = later_by_index s ci gsi content
by_index_alone s (Tuning n) = step_by plain_rules s (Tuning n)
by_index_alone s (Administration n) = step_by plain_rules s (Administration n)
by_index_alone s (Index7 n) = step_by plain_rules s (Index7 n)
by_index_alone s (Beyond n) = step_by plain_rules s (Beyond n)

-- three groups, the second lost: the third is joined to the first
pub by_index_alone_lem : Demand3 plain_rules (reports_to (λ s n. by_index_alone s (kind_of n)) empty) → ⊥
unfolding computing later_by_index by_index_alone
by_index_alone_lem claim =
    let sent = sent3 true false true ∷ [] in
    let e : ◌≡◌ {A = List Plain} ((401 ∷ 8 ∷ []) ∷ []) [] =
    claim sent (0x01899101F4 ∷ 0x0100000008 ∷ []) (formed3 true false true, tt) (by_test 5 sent refl) (few-lost 5 sent (lit< tt)) refl in
    let z : ◌≡◌ {A = ℕ} 0 1 = cc in
    omega arith

-- an open message is dropped for another one only
unfoldable pub still_open : State → State → State
still_open s empty = s
still_open s (started ci head last contents) = started ci head last contents

unfoldable pub never_dropping : State → ℕ → Step Plain Refusal
never_dropping s n = record { next = still_open s (step plain_rules s n).next; answer = (step plain_rules s n).answer }

-- the head of one message is joined to the tail of another of its index, five messages later
pub never_dropping_lem : Demand3 plain_rules (reports_to never_dropping empty) → ⊥
unfolding computing still_open never_dropping
never_dropping_lem claim =
    let sent = sent3 true true false ∷ sent1 true ∷ sent1 true ∷ sent1 true ∷ sent1 true ∷ sent1 true ∷ sent3 false false true ∷ [] in
    let words : List ℕ = 0x01899101F4 ∷ 0x0150000007 ∷ single101 ∷ single101 ∷ single101 ∷ single101 ∷ single101 ∷ 0x0100000008 ∷ [] in
    let f1 = formed1 true in
    let e = claim sent words (formed3 true true false, (f1, (f1, (f1, (f1, (f1, (formed3 false false true, tt))))))) (by_test 5 sent refl) (few-lost 5 sent (lit< tt)) refl in
    let one_more : ◌≡◌ {A = ℕ} 6 5 = ap length e in
    omega arith

-- nothing after the first report
unfoldable pub silent : List (Result (Answer Plain) Refusal) → List (Result (Answer Plain) Refusal)
silent [] = []
silent (Ok nothing ∷ rest) = Ok nothing ∷ silent rest
silent (Ok (report r) ∷ rest) = Ok (report r) ∷ map (λ a. Ok nothing) rest
silent (Ok (tuning n) ∷ rest) = Ok (tuning n) ∷ silent rest
silent (Ok (administration n) ∷ rest) = Ok (administration n) ∷ silent rest
silent (Err e ∷ rest) = Err e ∷ silent rest

-- two single-group messages
pub silent_after-first : Demand3 plain_rules (λ words. reports_among (silent (answers (step plain_rules) empty words))) → ⊥
unfolding computing silent
silent_after-first claim =
    let sent = sent1 true ∷ sent1 true ∷ [] in
    let e : ◌≡◌ {A = List Plain} ((101 ∷ []) ∷ []) ((101 ∷ []) ∷ (101 ∷ []) ∷ []) =
    claim sent (single101 ∷ single101 ∷ []) (formed1 true, (formed1 true, tt)) (by_test 5 sent refl) (few-lost 5 sent (lit< tt)) refl in
    let z : ◌≡◌ {A = ℕ} 0 1 = cc in
    omega arith

-- this report in the place of any other
unfoldable pub always : Plain → Result (Answer Plain) Refusal → Result (Answer Plain) Refusal
always r (Ok nothing) = Ok nothing
always r (Ok (report x)) = Ok (report r)
always r (Ok (tuning n)) = Ok (tuning n)
always r (Ok (administration n)) = Ok (administration n)
always r (Err e) = Err e

unfoldable pub fixed : Plain → State → ℕ → Step Plain Refusal
fixed r s n = record { next = (step plain_rules s n).next; answer = always r (step plain_rules s n).answer }

-- two messages with different reports
pub one_fixed_report : (r : Plain) → Demand3 plain_rules (reports_to (fixed r) empty) → ⊥
unfolding computing always fixed
one_fixed_report r claim =
    let sent = sent1 true ∷ sent2 true true ∷ [] in
    let e : ◌≡◌ {A = List Plain} (r ∷ r ∷ []) ((101 ∷ []) ∷ (401 ∷ 0x3502000 ∷ []) ∷ []) =
    claim sent (single101 ∷ first401 ∷ later401 ∷ []) (formed1 true, (formed2 true true, tt)) (by_test 5 sent refl) (few-lost 5 sent (lit< tt)) refl in
    let z : ◌≡◌ {A = ℕ} 0 1 = cc in
    omega arith

-- every word is refused
pub refusing_all : Demand3 plain_rules (reports_to (λ s n. strayed plain_rules) empty) → ⊥
unfolding computing
refusing_all claim =
    let sent = sent1 true ∷ [] in
    let e : ◌≡◌ {A = List Plain} [] ((101 ∷ []) ∷ []) = claim sent (single101 ∷ []) (formed1 true, tt) (by_test 5 sent refl) (few-lost 5 sent (lit< tt)) refl in
    let z : ◌≡◌ {A = ℕ} 0 1 = cc in
    omega arith
