-- The FIGs that a walk passed: all of them, or those before a FIG 5/1 that is refused.
use Prim.Native.Nat.{ℕ, ◌+◌, ◌-◌, ◌≤◌}
use native.Mathlib.Nat.{add-zero, sub-zero}
use native.Mathlib.Omega.{arith}
use mathlib.Core.Path.{◌≡◌, refl, sym, ap, ap₂, subst, ◌∙◌}
use mathlib.Core.Bool.{true, false}
use mathlib.Core.List.{List, [], ◌∷◌, ◌++◌, map}
use lib.ListN.{length, length-append}
use Rattle.bits.specs.Lists.{joined}
use Rattle.std.specs.Prelude.{Result, Ok, Err}
use Rattle.refusal.specs.declared.Refusal.{Refusal}
use Rattle.bits.proofs.Choice.{either, chosen, passed_over}
use Rattle.fig.specs.Read.{read_fig}
use Rattle.fib.specs.Walk.{is_tmc, Carried, carried_by, read_one, all, refused_at, Walk, and_then, walk_from}
use Rattle.fib.specs.Each.{tmcs, fig_by, words_by, AllTaken}
use Rattle.fib.proofs.Carrying.{one_fits}
use Rattle.fib.proofs.Alone.{read-tmc, read_other, read-refused}

-- a FIG 5/1 is among the FIGs 5/1, and any other is not
pub tmcs-more : (f : List ℕ) (fs : List (List ℕ)) → is_tmc f ≡ true → tmcs (f ∷ fs) ≡ f ∷ tmcs fs
unfolding tmcs
tmcs-more f fs t = chosen _ _ _ t

pub tmcs-same : (f : List ℕ) (fs : List (List ℕ)) → is_tmc f ≡ false → tmcs (f ∷ fs) ≡ tmcs fs
unfolding tmcs
tmcs-same f fs t = passed_over _ _ _ t

-- what the FIG reader gives for each of some FIGs by itself
abbrev pub given_by : List (List ℕ) → List Carried
given_by fs = joined (map (λ f. carried_by (fig_by f) (words_by f)) fs)

-- FIGs that were passed, and what was found in them
pub record Passed (room : ℕ) (fs : List (List ℕ)) (found : List Carried) : Type 0 where
  pub taken : AllTaken (tmcs fs)
  pub given : found ≡ given_by (tmcs fs)
  pub fits : length found ≤ room

passed_none : (room : ℕ) → Passed room [] []
unfolding tmcs joined
passed_none room = record { taken = tt; given = refl; fits = omega arith }

passed_more : (f : List ℕ) (fs : List (List ℕ)) (room : ℕ) (cs ds : List Carried) → read_one room f ≡ Ok cs → Passed (room - length cs) fs ds → Passed room (f ∷ fs) (cs ++ ds)
unfolding joined
passed_more f fs room cs ds e p =
    let fit : length (cs ++ ds) ≤ room = omega (arith, length-append cs ds, one_fits f room cs e, p.fits) in
    either (is_tmc f)
    (λ t.
    let r = read-tmc f room cs e t in
    let more = tmcs-more f fs t in
    record { taken = subst AllTaken (sym more) (r.0, p.taken); given = ap₂ (λ (l m : List Carried). l ++ m) r.1 p.given ∙ sym (ap given_by more); fits = fit })
    (λ t.
    let same = tmcs-same f fs t in
    record { taken = subst AllTaken (sym same) p.taken; given = ap₂ (λ (l m : List Carried). l ++ m) (read_other f room cs e t) p.given ∙ sym (ap given_by same); fits = fit })

-- a walk to the end
passed_step : (f : List ℕ) (fs : List (List ℕ)) (at room : ℕ) (x : Result (List Carried) Refusal) (next : ℕ → Walk) → read_one room f ≡ x
    → ((n : ℕ) → (next n).end ≡ all → Passed (room - n) fs (next n).found)
    → (and_then at x next).end ≡ all
    → Passed room (f ∷ fs) (and_then at x next).found
unfolding and_then
passed_step f fs at room (Ok cs) next h others e = passed_more f fs room cs (next (length cs)).found h (others (length cs) e)
passed_step f fs at room (Err n) next h others e = absurd (cc)

pub passed_all : (fs : List (List ℕ)) (at room : ℕ) → (walk_from at room fs).end ≡ all → Passed room fs (walk_from at room fs).found
unfolding walk_from
passed_all [] at room e = passed_none room
passed_all (f ∷ fs) at room e = passed_step f fs at room (read_one room f) (λ n. walk_from (at + length f) (room - n) fs) refl (λ n. passed_all fs (at + length f) (room - n)) e

-- a walk that ended before: the FIGs that were passed, and the one that is refused with the room that is left, at byte begin
pub record Halted (at room : ℕ) (fs : List (List ℕ)) (found : List Carried) (refusal : Refusal) (begin : ℕ) : Type 0 where
  pub before : List (List ℕ)
  pub fig : List ℕ
  pub behind : List (List ℕ)
  pub figs : fs ≡ before ++ fig ∷ behind
  pub tmc : is_tmc fig ≡ true
  pub begins : begin ≡ at + length (joined before)
  pub passed : Passed room before found
  pub refuses : read_fig fig (room - length found) ≡ Err refusal

halted_step : (f : List ℕ) (fs : List (List ℕ)) (at room : ℕ) (n : Refusal) (begin : ℕ) (x : Result (List Carried) Refusal) (next : ℕ → Walk) → read_one room f ≡ x
    → ((m : ℕ) → (next m).end ≡ refused_at n begin → Halted (at + length f) (room - m) fs (next m).found n begin)
    → (and_then at x next).end ≡ refused_at n begin
    → Halted at room (f ∷ fs) (and_then at x next).found n begin
unfolding and_then joined
halted_step f fs at room n begin (Ok cs) next h others e =
    let o = others (length cs) e in
    let ds = (next (length cs)).found in
    let left : room - length (cs ++ ds) ≡ room - length cs - length ds = omega (arith, length-append cs ds) in
    record {
      before = f ∷ o.before;
      fig = o.fig;
      behind = o.behind;
      figs = ap (λ (l : List (List ℕ)). f ∷ l) o.figs;
      tmc = o.tmc;
      begins = o.begins ∙ omega (arith, length-append f (joined o.before));
      passed = passed_more f o.before room cs ds h o.passed;
      refuses = ap (read_fig o.fig) left ∙ o.refuses;
    }
halted_step f fs at room n begin (Err m) next h others e =
    let r = read-refused f room m h in
    let same : m ≡ n = cc in
    let here : at ≡ begin = cc in
    record {
      before = [];
      fig = f;
      behind = fs;
      figs = refl;
      tmc = r.0;
      begins = sym here ∙ sym (add-zero at);
      passed = passed_none room;
      refuses = ap (read_fig f) (sub-zero room) ∙ r.1 ∙ ap (λ (x : Refusal). Err x) same;
    }

pub halted : (fs : List (List ℕ)) (at room : ℕ) (n : Refusal) (begin : ℕ) → (walk_from at room fs).end ≡ refused_at n begin → Halted at room fs (walk_from at room fs).found n begin
unfolding walk_from
halted [] at room n begin e = absurd (cc)
halted (f ∷ fs) at room n begin e = halted_step f fs at room n begin (read_one room f) (λ m. walk_from (at + length f) (room - m) fs) refl (λ m. halted fs (at + length f) (room - m) n begin) e
