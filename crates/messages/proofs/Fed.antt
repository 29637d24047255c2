-- Whole messages: what the writer's test says of the words, one by one and as calls of a fresh assembler.
use Prim.Native.Nat.{ℕ, zero, suc, ◌^◌, ◌<◌}
use mathlib.Core.Path.{◌≡◌, refl, sym, ap, ap₂, ◌∙◌}
use mathlib.Core.Logic.{◌↔◌}
use mathlib.Core.Bool.{Bool, true, false, ◌&&◌, ◌||◌, not, or-true, or-false, false≢true}
use mathlib.Core.List.{List, [], ◌∷◌, ◌++◌}
use lib.ListN.{get_or}
use lib.Dec.{ltb, lit<}
use borrow.Author.Tests.{ltb-true, ltb-false}
use Rattle.bits.proofs.Choice.{and_left, and_right}
use Rattle.word.specs.Kind.{kind_of}
use Rattle.transmission.specs.Demand3.{All}
use Rattle.std.specs.Prelude.{is_ok, IsOk}
use Rattle.assembler.specs.declared.Assembler.{Assembler}
use Rattle.assembler.specs.declared.Assembler.TheVariants.{Empty, Started}
use Rattle.assembler.specs.declared.Step.{Step}
use Rattle.assembler.specs.Reading.{Reads}
use Rattle.assembler.specs.Step.{step_of}
use Rattle.assembler.specs.Calls.{calls, after}
use Rattle.assembler.proofs.Refusals.{no_word-refused}
use Rattle.messages.specs.Messages.{is_empty, begins, passes, whole_from, whole}
use Rattle.messages.specs.Whole.{Whole}

-- a call that was not refused
abbrev Taken : Step → Type 0
Taken s = IsOk s.answer

-- a state with no open message
empty_state : (a : Assembler) → is_empty a ≡ true → a ≡ Empty
unfolding is_empty
empty_state Empty e = refl
empty_state (Started p) e = absurd (cc)

module _ (read : Reads) where
  -- the parts of the test of one word
  module _ (a : Assembler) (n : ℕ) (ns : List ℕ) (w : whole_from read a (n ∷ ns) ≡ true) where
    here : passes read a n ≡ true
    unfolding whole_from
    here = and_left (passes read a n) (whole_from read (step_of read a n).next ns) w

    later : whole_from read (step_of read a n).next ns ≡ true
    unfolding whole_from
    later = and_right (passes read a n) (whole_from read (step_of read a n).next ns) w

    not-refused : Taken (step_of read a n)
    unfolding passes
    not-refused = and_right (is_empty a || not (begins (kind_of n))) (is_ok (step_of read a n).answer) here

    -- a message begins in the empty state alone
    begun : begins (kind_of n) ≡ true → a ≡ Empty
    unfolding passes
    begun b =
        let none : is_empty a || not (begins (kind_of n)) ≡ true = and_left (is_empty a || not (begins (kind_of n))) (is_ok (step_of read a n).answer) here in
        empty_state a (sym (or-false (is_empty a)) ∙ sym (ap (λ (t : Bool). is_empty a || not t) b) ∙ none)

  -- numbers of 2^37 or more are refused
  pub whole_below : (ws : List ℕ) (a : Assembler) → whole_from read a ws ≡ true → (i : ℕ) → get_or ws i 0 < 2 ^ 37
  whole_below [] a w i = lit< tt
  whole_below (n ∷ ns) a w (suc i) = whole_below ns (step_of read a n).next (later a n ns w) i
  whole_below (n ∷ ns) a w zero = below (ltb n (2 ^ 37)) refl
    where
      below : (t : Bool) → ltb n (2 ^ 37) ≡ t → n < 2 ^ 37
      below true e = ltb-true n (2 ^ 37) e
      below false e =
          let refused : is_ok (step_of read a n).answer ≡ false = ap (λ (s : Step). is_ok s.answer) (no_word-refused read a n (ltb-false n (2 ^ 37) e)) in
          absurd (false≢true (sym refused ∙ not-refused a n ns w))

  -- calls from a state on
  all-taken : (ws : List ℕ) (a : Assembler) → whole_from read a ws ≡ true → All Taken (calls read a ws)
  unfolding calls
  all-taken [] a w = tt
  all-taken (n ∷ ns) a w = (not-refused a n ns w, all-taken ns (step_of read a n).next (later a n ns w))

  none_open : (ws : List ℕ) (a : Assembler) → whole_from read a ws ≡ true → after read a ws ≡ Empty
  unfolding whole_from after
  none_open [] a w = empty_state a w
  none_open (n ∷ ns) a w = none_open ns (step_of read a n).next (and_right (passes read a n) (whole_from read (step_of read a n).next ns) w)

  none_dropped : (before : List ℕ) (n : ℕ) (rest : List ℕ) (a : Assembler) → whole_from read a (before ++ n ∷ rest) ≡ true → begins (kind_of n) ≡ true → after read a before ≡ Empty
  unfolding after
  none_dropped [] n rest a w b = begun a n rest w b
  none_dropped (m ∷ before) n rest a w b = none_dropped before n rest (step_of read a m).next (later a m (before ++ n ∷ rest) w) b

  all_whole : (ws : List ℕ) (a : Assembler) → All Taken (calls read a ws)
      → ((before : List ℕ) (n : ℕ) (rest : List ℕ) → ws ≡ before ++ n ∷ rest → begins (kind_of n) ≡ true → after read a before ≡ Empty)
      → after read a ws ≡ Empty → whole_from read a ws ≡ true
  unfolding calls after whole_from passes is_empty
  all_whole [] a t k e = ap is_empty e
  all_whole (n ∷ ns) a t k e =
      ap₂ (λ (x y : Bool). x && y)
      (ap₂ (λ (x y : Bool). x && y) (starts (begins (kind_of n)) refl) t.0)
      (all_whole ns (step_of read a n).next t.1 (λ before m rest s b. k (n ∷ before) m rest (ap (λ (l : List ℕ). n ∷ l) s) b) e)
    where
      starts : (t : Bool) → begins (kind_of n) ≡ t → is_empty a || not t ≡ true
      starts true b = ap (λ (x : Assembler). is_empty x || false) (k [] n ns refl b)
      starts false b = or-true (is_empty a)

  -- the writer's test is what the rules say of the calls
  pub whole_means : (ws : List ℕ) → whole read ws ≡ true ↔ Whole read ws
  whole_means ws = (
    λ w. record {
      taken = all-taken ws Empty w;
      kept = λ before n rest s b. none_dropped before n rest Empty (ap (whole read) (sym s) ∙ w) b;
      ended = none_open ws Empty w;
    },
    λ r. all_whole ws Empty r.taken r.kept r.ended,
  )
