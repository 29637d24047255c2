-- A loss holds only messages that are lost whole, with no group heard between them: where never k are, none holds k. The examples use it.
use Prim.Native.Nat.{ℕ, zero, suc, ◌+◌, ◌≤◌, ◌<◌, max}
use mathlib.Core.Path.{◌≡◌, refl, sym, ap₂, subst, ◌∙◌}
use mathlib.Core.Bool.{Bool, true, false, cond, ◌&&◌, not, and-false}
use mathlib.Core.List.{List, [], ◌∷◌, ◌++◌}
use native.Mathlib.Nat.{add-zero, zero-add, le_refl}
use native.Mathlib.Omega.{arith}
use lib.Dec.{leb}
use lib.ListN.{length}
use borrow.Author.Tests.{leb-true, leb-false, lt-leb, not-true}
use Rattle.bits.proofs.Choice.{either, and_left, and_right}
use Rattle.transmission.specs.Message.{Group, Message, lost}
use Rattle.transmission.specs.Transmission.{groups_of, held, NoLossHolds}

-- the most messages that were lost whole with no group heard between them, if n of them stand before these
unfoldable pub most_lost : {R : Type 0} → ℕ → List (Message R) → ℕ
most_lost n [] = n
most_lost n (m ∷ sent) = cond (lost m.groups) (most_lost (suc n) sent) (max n (most_lost 0 sent))

module _ {R : Type 0} where
  at_least : (n : ℕ) (sent : List (Message R)) → n ≤ most_lost n sent
  unfolding most_lost
  at_least n [] = le_refl n
  at_least n (m ∷ sent) = by_loss (lost m.groups) (at_least (suc n) sent)
    where
      by_loss : (b : Bool) → suc n ≤ most_lost (suc n) sent → n ≤ cond b (most_lost (suc n) sent) (max n (most_lost 0 sent))
      by_loss true h = omega arith
      by_loss false h = omega arith

  one_more : (n : ℕ) (sent : List (Message R)) → most_lost n sent ≤ most_lost (suc n) sent
  unfolding most_lost
  one_more n [] = omega arith
  one_more n (m ∷ sent) = by_loss (lost m.groups) (one_more (suc n) sent)
    where
      by_loss : (b : Bool) → most_lost (suc n) sent ≤ most_lost (suc (suc n)) sent → cond b (most_lost (suc n) sent) (max n (most_lost 0 sent)) ≤ cond b (most_lost (suc (suc n)) sent) (max (suc n) (most_lost 0 sent))
      by_loss true h = h
      by_loss false h = omega arith

  one_lost : (n : ℕ) (m : Message R) (sent : List (Message R)) → lost m.groups ≡ true → most_lost n (m ∷ sent) ≡ most_lost (suc n) sent
  unfolding most_lost
  one_lost n m sent e = rw e

  one_behind : (m : Message R) (sent : List (Message R)) → most_lost 0 sent ≤ most_lost 0 (m ∷ sent)
  unfolding most_lost
  one_behind m sent = by_loss (lost m.groups) (one_more 0 sent)
    where
      by_loss : (b : Bool) → most_lost 0 sent ≤ most_lost 1 sent → most_lost 0 sent ≤ cond b (most_lost 1 sent) (max 0 (most_lost 0 sent))
      by_loss true h = h
      by_loss false h = omega arith

module _ (from to : ℕ) where
  -- of groups that begin at a position, those at the positions from `from` up to `to` were lost
  abbrev Lost : ℕ → List Group → Type 0
  Lost position [] = Unit {0}
  Lost position (g ∷ gs) = (from ≤ position → position < to → g.arrived ≡ false) × Lost (suc position) gs

  lost-behind : (position : ℕ) (behind : List Group) → to ≤ position → Lost position behind
  lost-behind position [] h = tt
  lost-behind position (g ∷ gs) h = (λ a b. absurd (omega arith), lost-behind (suc position) gs (omega arith))

  lost-run : (position : ℕ) (run behind : List Group) → lost run ≡ true → position + length run ≡ to → Lost position (run ++ behind)
  unfolding lost
  lost-run position [] behind l e = lost-behind position behind (omega arith)
  lost-run position (g ∷ gs) behind l e =
      (λ a b. not-true g.arrived (and_left (not g.arrived) (lost gs) l), lost-run (suc position) gs behind (and_right (not g.arrived) (lost gs) l) (omega arith))

  lost-before : (position : ℕ) (before run behind : List Group) → position + length before ≡ from → lost run ≡ true → from + length run ≡ to → Lost position (before ++ (run ++ behind))
  lost-before position [] run behind a l e = lost-run position run behind l (omega arith)
  lost-before position (g ∷ gs) run behind a l e = (λ b c. absurd (omega arith), lost-before (suc position) gs run behind (omega arith) l e)

  rest-lost : (position beyond : ℕ) (gs others : List Group) → position + length gs ≡ beyond → Lost position (gs ++ others) → Lost beyond others
  rest-lost position beyond [] others e h = subst (λ (p : ℕ). Lost p others) (sym (add-zero position) ∙ e) h
  rest-lost position beyond (g ∷ gs) others e h = rest-lost (suc position) beyond gs others (omega arith) h.1

  all-lost : (position : ℕ) (gs others : List Group) → from ≤ position → position + length gs ≤ to → Lost position (gs ++ others) → lost gs ≡ true
  unfolding lost
  all-lost position [] others a b h = refl
  all-lost position (g ∷ gs) others a b h = ap₂ (λ (x y : Bool). not x && y) (h.0 a (omega arith)) (all-lost (suc position) gs others (omega arith) (omega arith) h.1)

  not_yet : (n position : ℕ) → (0 < n → from ≤ position) → position < from → n ≡ 0
  not_yet zero position a h = refl
  not_yet (suc n) position a h = let g = a (omega arith) in absurd (omega arith)

  -- no message that ends beyond `to` is held, nor any behind it
  none_beyond : {R : Type 0} (position : ℕ) (sent : List (Message R)) → to < position → held from to position sent ≡ 0
  unfolding held
  none_beyond position [] h = refl
  none_beyond position (m ∷ sent) h =
      let beyond = position + length m.groups in
      rw (lt-leb beyond to (omega arith), and-false (leb from position), none_beyond beyond sent (omega arith))

  -- one message, and then those behind it
  held_next : {R : Type 0} (n position : ℕ) (m : Message R) (sent : List (Message R)) → (0 < n → from ≤ position) → Lost position (m.groups ++ groups_of sent)
      → ((k : ℕ) → (0 < k → from ≤ position + length m.groups) → k + held from to (position + length m.groups) sent ≤ most_lost k sent)
      → n + held from to position (m ∷ sent) ≤ most_lost n (m ∷ sent)
  unfolding held
  held_next n position m sent a h more =
      let beyond = position + length m.groups in
      either (leb beyond to)
      (λ e. either (leb from position)
      (λ f.
      let inside = leb-true from position f in
      let rest = more (suc n) (λ p. omega arith) in
      let same = one_lost n m sent (all-lost position m.groups (groups_of sent) inside (leb-true beyond to e) h) in
      rw (e, f) (omega arith))
      (λ f.
      let none = not_yet n position a (leb-false from position f) in
      let rest = more 0 (λ p. absurd (omega arith)) in
      let behind = one_behind m sent in
      rw (none, f) (omega arith)))
      (λ e.
      let past = none_beyond beyond sent (leb-false beyond to e) in
      let least = at_least n (m ∷ sent) in
      rw (e, and-false (leb from position), past) (omega arith))

  -- the messages held follow one another, with no group heard between them
  held_most : {R : Type 0} (n position : ℕ) (sent : List (Message R)) → (0 < n → from ≤ position) → Lost position (groups_of sent) → n + held from to position sent ≤ most_lost n sent
  unfolding groups_of
  held_most {R} n position [] a h = unfold held in let least : n ≤ most_lost {R = R} n [] = at_least n [] in omega arith
  held_most n position (m ∷ sent) a h =
      held_next n position m sent a h
      (λ k b. held_most k (position + length m.groups) sent b (rest-lost position (position + length m.groups) m.groups (groups_of sent) refl h))

pub few-lost : {R : Type 0} (k : ℕ) (sent : List (Message R)) → most_lost 0 sent < k → NoLossHolds k sent
few-lost k sent few before run behind e l =
    let from = length before in
    let to = from + length run in
    let h = held_most from to 0 0 sent (λ p. absurd (omega arith)) (subst (Lost from to 0) (sym e) (lost-before from to 0 before run behind (zero-add _) l refl)) in
    omega arith
