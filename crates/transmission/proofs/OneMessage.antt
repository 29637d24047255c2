-- One message, from whatever state: what it reports, by which of its groups arrived.
use Prim.Native.Nat.{ℕ, suc, ◌<◌}
use mathlib.Core.Path.{◌≡◌, refl, ap, ◌∙◌}
use mathlib.Core.Bool.{Bool, true, false, cond, ◌&&◌, not}
use mathlib.Core.List.{List, [], ◌∷◌, ◌++◌, append-nil, append_assoc}
use native.Mathlib.Omega.{arith}
use lib.Dec.{eqb-suc-zero}
use Rattle.std.specs.Prelude.{Ok}
use Rattle.word.specs.declared.Head.{Head}
use Rattle.word.specs.declared.Word.TheVariants.{First, Later}
use Rattle.word.specs.Kind.{kind_of}
use Rattle.transmission.specs.Reading.{Rules}
use Rattle.transmission.specs.State.{State, empty, started}
use Rattle.transmission.specs.Step.{Step, strayed, completed, taken, later, step_by}
use Rattle.transmission.specs.Calls.{report_then}
use Rattle.transmission.specs.Message.{Group, arrived_of, whole, lost, Falling, end, next, WellFormed, alone, joined, OfIndex, begins}
use Rattle.transmission.proofs.Steps.{Foreign, foreign_strays, unmarked_strays, gap_strays, in_turn_lem, marked_in_turn, taken_open, step-kind, step-later}
use Rattle.transmission.proofs.Heard.{heard, heard_after, heard-step}

-- later groups, each out of turn in state s
data Stray {R E : Type 0} (rules : Rules R E) (s : State) : List Group → Type 0 where
  none : Stray rules s []
  one : {g : Group} {gs : List Group} {ci second gsi c : ℕ} → kind_of g.word ≡ Later ci second gsi c → later rules s ci second gsi c ≡ strayed rules → Stray rules s gs → Stray rules s (g ∷ gs)

-- with no open message every later group strays
stray_empty : {R E : Type 0} {rules : Rules R E} {s : State} {gs : List Group} → Stray rules s gs → Stray rules empty gs
unfolding later
stray_empty none = none
stray_empty (one k e t) = one k refl (stray_empty t)

module _ {R E : Type 0} (rules : Rules R E) where
  -- the later groups after one of GSI g, if none without the mark and of a lower GSI is in turn
  falling_strays : (s : State) {ci g : ℕ} {cs : List ℕ} {gs : List Group} → Falling ci g cs gs → ((gsi c : ℕ) → gsi < g → later rules s ci 0 gsi c ≡ strayed rules) → Stray rules s gs
  falling_strays s end h = none
  falling_strays s (next {gsi = gsi} {c = c} k f) h = one k (h gsi c (omega arith)) (falling_strays s f (λ gsi' c' l. h gsi' c' (omega arith)))

module _ {R E : Type 0} (rules : Rules R E) (rest : List ℕ) (due : List R) (gone : heard rules empty rest ≡ due) where
  -- groups that stray give no report, and if one of them arrives no message is open any more
  strays : (gs : List Group) (s : State) → Stray rules s gs → (lost gs ≡ true → heard rules s rest ≡ due) → heard rules s (arrived_of gs ++ rest) ≡ due
  unfolding arrived_of lost report_then
  strays [] s none h = h refl
  strays (g ∷ gs) s (one {ci = ci} {second = second} {gsi = gsi} {c = c} k l t) h = by_fate g.arrived h (strays gs s t) (strays gs empty (stray_empty t) (λ e. gone))
    where
      by_fate : (b : Bool) → (not b && lost gs ≡ true → heard rules s rest ≡ due)
          → ((lost gs ≡ true → heard rules s rest ≡ due) → heard rules s (arrived_of gs ++ rest) ≡ due)
          → heard rules empty (arrived_of gs ++ rest) ≡ due → heard rules s (cond b (g.word ∷ arrived_of gs) (arrived_of gs) ++ rest) ≡ due
      by_fate false h same emptied = same h
      by_fate true h same emptied = heard-step rules s g.word (arrived_of gs ++ rest) (step-later rules s g.word k l) ∙ emptied

  module _ (ci : ℕ) (head : Head) (r : R) (kept : (last : ℕ) (contents : List ℕ) → heard rules (started ci head last contents) rest ≡ due) where
    -- from a later group taken on
    go_on : {gsi : ℕ} {cs : List ℕ} {gs : List Group} (c : ℕ) (contents : List ℕ) → Falling ci gsi cs gs → rules.multi head ((c ∷ contents) ++ cs) ≡ Ok r
        → heard_after rules (taken rules ci head gsi (c ∷ contents)) (arrived_of gs ++ rest) ≡ cond (whole gs) (r ∷ due) due
    unfolding taken completed arrived_of whole report_then
    go_on c contents end e =
        let reads : rules.multi head (c ∷ contents) ≡ Ok r = rw append-nil at e in
        rw reads (ap (λ (l : List R). r ∷ l) gone)
    go_on c contents (next {g = g} {gsi = gsi} {c = d} {cs = cs} {gs = gs} k f) e =
        ap (λ (t : Step R E). heard_after rules t (arrived_of (g ∷ gs) ++ rest)) (taken_open rules ci head (suc gsi) (c ∷ contents) (eqb-suc-zero gsi))
        ∙ by_fate g.arrived (go_on c (contents ++ d ∷ []) f (rw append_assoc e))
      where
        by_fate : (b : Bool) → heard_after rules (taken rules ci head gsi (c ∷ (contents ++ d ∷ []))) (arrived_of gs ++ rest) ≡ cond (whole gs) (r ∷ due) due
            → heard rules (started ci head (suc gsi) (c ∷ contents)) (cond b (g.word ∷ arrived_of gs) (arrived_of gs) ++ rest) ≡ cond (b && whole gs) (r ∷ due) due
        by_fate true taken-on = heard-step rules _ g.word (arrived_of gs ++ rest) (step-later rules _ g.word k (in_turn_lem rules ci head gsi c contents d)) ∙ taken-on
        by_fate false taken-on =
            strays gs (started ci head (suc gsi) (c ∷ contents)) (falling_strays rules _ f (λ gsi' c' l. gap_strays rules ci head (suc gsi) c contents gsi' c' (λ q. omega arith)))
            (λ e. kept (suc gsi) (c ∷ contents))

    module _ (g : Group) (gs : List Group) {gsi c : ℕ} {cs : List ℕ} (k : kind_of g.word ≡ Later ci 1 gsi c) (falling : Falling ci gsi cs gs) where
      -- from a first group that arrived on
      from_first : rules.multi head (c ∷ cs) ≡ Ok r → heard rules (started ci head 0 []) (arrived_of (g ∷ gs) ++ rest) ≡ cond (whole (g ∷ gs)) (r ∷ due) due
      unfolding arrived_of whole
      from_first reads = by_fate g.arrived
        where
          by_fate : (b : Bool) → heard rules (started ci head 0 []) (cond b (g.word ∷ arrived_of gs) (arrived_of gs) ++ rest) ≡ cond (b && whole gs) (r ∷ due) due
          by_fate true = heard-step rules _ g.word (arrived_of gs ++ rest) (step-later rules _ g.word k (marked_in_turn rules ci head gsi c)) ∙ go_on c [] falling reads
          by_fate false = strays gs (started ci head 0 []) (falling_strays rules _ falling (λ gsi' c' l. unmarked_strays rules ci head gsi' c')) (λ e. kept 0 [])

      -- all groups of a message, where none of its index is open
      from_foreign : (s : State) (f : Group) → kind_of f.word ≡ First ci head → rules.multi head (c ∷ cs) ≡ Ok r → Foreign ci s
          → (lost (f ∷ g ∷ gs) ≡ true → heard rules s rest ≡ due)
          → heard rules s (arrived_of (f ∷ g ∷ gs) ++ rest) ≡ cond (whole (f ∷ g ∷ gs)) (r ∷ due) due
      unfolding arrived_of whole lost step_by report_then
      from_foreign s f first reads foreign = by_fate f.arrived
        where
          by_fate : (b : Bool) → (not b && lost (g ∷ gs) ≡ true → heard rules s rest ≡ due)
              → heard rules s (cond b (f.word ∷ arrived_of (g ∷ gs)) (arrived_of (g ∷ gs)) ++ rest) ≡ cond (b && whole (g ∷ gs)) (r ∷ due) due
          by_fate true passed = heard-step rules s f.word (arrived_of (g ∷ gs) ++ rest) (step-kind rules s f.word (First ci head) first) ∙ from_first reads
          by_fate false passed = strays (g ∷ gs) s (one k (foreign_strays rules ci s foreign 1 gsi c) (falling_strays rules s falling (λ gsi' c' l. foreign_strays rules ci s foreign 0 gsi' c'))) passed

  -- a message of which any groups may be lost, where none of its index is open; it may stay open itself
  pub one_message : (s : State) {gs : List Group} {r : R} → WellFormed rules gs r → ((ci : ℕ) → OfIndex ci gs → Foreign ci s)
      → (lost gs ≡ true → heard rules s rest ≡ due)
      → ((ci : ℕ) → OfIndex ci gs → (head : Head) (last : ℕ) (contents : List ℕ) → heard rules (started ci head last contents) rest ≡ due)
      → heard rules s (arrived_of gs ++ rest) ≡ cond (whole gs) (r ∷ due) due
  unfolding arrived_of whole lost step_by report_then
  one_message s (alone {g = g} {duration = duration} {diversion = diversion} {head = head} k) foreign passed kept = by_fate g.arrived passed
    where
      by_fate : (b : Bool) → (not b && true ≡ true → heard rules s rest ≡ due)
          → heard rules s (cond b (g.word ∷ []) [] ++ rest) ≡ cond (b && true) (rules.single duration diversion head ∷ due) due
      by_fate true h = heard-step rules s g.word rest (step-kind rules s g.word _ k) ∙ ap (λ (l : List R). rules.single duration diversion head ∷ l) gone
      by_fate false h = h refl
  one_message s {r = r} (joined {f = f} {g = g} {ci = ci} {head = head} {gs = gs} k k2 falling reads) foreign passed kept =
      from_foreign ci head r (kept ci (begins k) head) g gs k2 falling s f k reads (foreign ci (begins k)) passed
