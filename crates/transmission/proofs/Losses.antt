-- Losses of whole messages: where no loss holds k of them, k neighbouring ones are never all lost.
use Prim.Native.Nat.{ℕ, zero, suc, ◌+◌, ◌≤◌, ◌<◌}
use mathlib.Core.Path.{◌≡◌, refl, sym, ap, ◌∙◌}
use mathlib.Core.Bool.{Bool, true, false, ◌&&◌, not, false≢true}
use mathlib.Core.List.{List, [], ◌∷◌, ◌++◌, append_assoc}
use native.Mathlib.Nat.{add-zero, zero-add, add_assoc, le_refl}
use native.Mathlib.Omega.{arith}
use lib.ListN.{length, take, drop, length-append, take-append-drop}
use borrow.Author.Tests.{le-leb}
use Rattle.bits.proofs.Choice.{and_left, and_right}
use Rattle.transmission.specs.Message.{Group, Message, lost}
use Rattle.transmission.specs.Transmission.{groups_of, held, NoLossHolds}

-- the first k messages are there, and all their groups were lost
unfoldable pub lost_first : {R : Type 0} → ℕ → List (Message R) → Bool
lost_first zero sent = true
lost_first (suc k) [] = false
lost_first (suc k) (m ∷ sent) = lost m.groups && lost_first k sent

abbrev pub NeverLost : {R : Type 0} → ℕ → List (Message R) → Type 0
NeverLost {R} k sent = (before behind : List (Message R)) → sent ≡ before ++ behind → lost_first k behind ≡ true → ⊥

lost-append : (gs hs : List Group) → lost gs ≡ true → lost hs ≡ true → lost (gs ++ hs) ≡ true
unfolding lost
lost-append [] hs e f = f
lost-append (g ∷ gs) hs e f = rw (and_left (not g.arrived) (lost gs) e) (lost-append gs hs (and_right (not g.arrived) (lost gs) e) f)

module _ {R : Type 0} where
  groups-append : (l l' : List (Message R)) → groups_of (l ++ l') ≡ groups_of l ++ groups_of l'
  unfolding groups_of
  groups-append [] l' = refl
  groups-append (m ∷ l) l' = ap (λ (gs : List Group). m.groups ++ gs) (groups-append l l') ∙ sym (append_assoc m.groups (groups_of l) (groups_of l'))

  lost-run : (k : ℕ) (sent : List (Message R)) → lost_first k sent ≡ true → lost (groups_of (take k sent)) ≡ true
  unfolding groups_of lost_first lost
  lost-run zero sent e = refl
  lost-run (suc k) [] e = absurd (false≢true e)
  lost-run (suc k) (m ∷ sent) e = lost-append m.groups (groups_of (take k sent)) (and_left (lost m.groups) (lost_first k sent) e) (lost-run k sent (and_right (lost m.groups) (lost_first k sent) e))

  -- a run of groups holds the messages that it is made of
  held-run : (k : ℕ) (sent : List (Message R)) (from to position : ℕ) → lost_first k sent ≡ true → from ≤ position → position + length (groups_of (take k sent)) ≤ to → k ≤ held from to position sent
  unfolding groups_of lost_first held
  held-run zero sent from to position e a b = omega arith
  held-run (suc k) [] from to position e a b = absurd (false≢true e)
  held-run (suc k) (m ∷ sent) from to position e a b =
      let all = length-append m.groups (groups_of (take k sent)) in
      let others = held-run k sent from to (position + length m.groups) (and_right (lost m.groups) (lost_first k sent) e) (omega arith) (omega arith) in
      rw (le-leb from position a, le-leb (position + length m.groups) to (omega arith)) (omega arith)

  -- the messages behind others
  held-behind : (l sent : List (Message R)) (from to position : ℕ) → held from to (position + length (groups_of l)) sent ≤ held from to position (l ++ sent)
  unfolding groups_of held
  held-behind [] sent from to position = rw add-zero (le_refl _)
  held-behind (m ∷ l) sent from to position =
      let others = held-behind l sent from to (position + length m.groups) in
      let more : held from to (position + length (m.groups ++ groups_of l)) sent ≤ held from to (position + length m.groups) (l ++ sent) = rw (length-append, ← add_assoc) others in
      omega arith

  pub never_lost : (k : ℕ) (sent : List (Message R)) → NoLossHolds k sent → NeverLost k sent
  never_lost k sent bound before behind e f =
      let run = groups_of (take k behind) in
      let split : groups_of behind ≡ run ++ groups_of (drop k behind) = ap groups_of (sym (take-append-drop k behind)) ∙ groups-append (take k behind) (drop k behind) in
      let all : groups_of sent ≡ groups_of before ++ (run ++ groups_of (drop k behind)) = ap groups_of e ∙ groups-append before behind ∙ ap (λ (gs : List Group). groups_of before ++ gs) split in
      let from = length (groups_of before) in
      let few = bound (groups_of before) run (groups_of (drop k behind)) all (lost-run k behind f) in
      let many = held-run k behind from (from + length run) from f (le_refl _) (le_refl _) in
      let here : held from (from + length run) from behind ≤ held from (from + length run) 0 (before ++ behind) = rw zero-add at (held-behind before behind from (from + length run) 0) in
      let few' : held from (from + length run) 0 (before ++ behind) < k = rw e at few in
      omega arith
