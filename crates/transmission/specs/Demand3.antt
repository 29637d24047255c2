-- Demand 3, as a claim about the reports that any assembler gives on a whole list of words, one call each (document 01, "The assembler").
-- docs/DEMAND3.md explains it.
use Rattle.std.specs.Prelude.{ℕ, ◌≡◌, cond, List, [], ◌∷◌}
use Rattle.word.specs.User.{is_user}
use Rattle.transmission.specs.Reading.{Rules}
use Rattle.transmission.specs.Message.{Message, WellFormed}
use Rattle.transmission.specs.Transmission.{Spaced, NoLossHolds, arrivals, due_reports}

-- the user groups among the words received; other words may stand anywhere
unfoldable pub user_words : List ℕ → List ℕ
user_words [] = []
user_words (n ∷ words) = cond (is_user n) (n ∷ user_words words) (user_words words)

abbrev pub All : {A : Type 0} → (A → Type 0) → List A → Type 0
All P [] = Unit {0}
All P (a ∷ l) = P a × All P l

module _ {R E : Type 0} (rules : Rules R E) where
  -- well-formed messages are sent, with at least `between` others between two multi-group messages of one continuity index; no unbroken loss
  -- of user groups holds `limit` messages; the user groups that are not lost are heard once and in order, with other words anywhere. Then the
  -- reports given on the words are those of the messages that arrived whole, in the order sent
  abbrev pub Claim : ℕ → ℕ → (List ℕ → List R) → Type 0
  Claim between limit reports_on =
      (sent : List (Message R)) (words : List ℕ)
      → All (λ m. WellFormed rules m.groups m.report) sent
      → Spaced between sent
      → NoLossHolds limit sent
      → user_words words ≡ arrivals sent
      → reports_on words ≡ due_reports sent

  abbrev pub Demand3 : (List ℕ → List R) → Type 0
  Demand3 = Claim 5 5
