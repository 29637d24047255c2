-- Five is needed on both sides: with a loss of five whole messages, or with four messages between two of one index, the abstract
-- assembler joins the head of one message to the tail of another.
use Prim.Native.Nat.{ℕ, zero, suc, ◌<◌}
use mathlib.Core.Path.{◌≡◌, refl, ◌∙◌}
use mathlib.Core.Bool.{true, false}
use mathlib.Core.List.{List, [], ◌∷◌}
use lib.Dec.{lit<}
use native.Mathlib.Omega.{arith}
use Rattle.transmission.specs.State.{empty}
use Rattle.transmission.specs.Step.{step}
use Rattle.transmission.specs.Calls.{reports_to}
use Rattle.transmission.specs.Message.{Message}
use Rattle.transmission.specs.Transmission.{arrivals, due_reports}
use Rattle.transmission.specs.Demand3.{user_words, All, Claim}
use Rattle.transmission.proofs.FewLost.{most_lost, few-lost}
use Rattle.transmission.proofs.Spacing.{spaced, by_test}
use Rattle.transmission.proofs.Samples.{computing, Plain, plain_rules, Formed, sent1, sent3, formed1, formed3}

-- k messages lost whole, then one of which only the last group arrives
abbrev only_tail : ℕ → List (Message Plain)
only_tail zero = sent3 false false true ∷ []
only_tail (suc k) = sent1 false ∷ only_tail k

-- before them a message of the same index, of which only the last group is lost
abbrev cut : ℕ → List (Message Plain)
cut k = sent3 true true false ∷ only_tail k

abbrev received : List ℕ
received = 0x01899101F4 ∷ 0x0150000007 ∷ 0x0100000008 ∷ []

formed : (k : ℕ) → All Formed (only_tail k)
formed zero = (formed3 false false true, tt)
formed (suc k) = (formed1 false, formed k)

-- a report is given and none is due
joined_wrongly : (between limit k : ℕ) → spaced between (cut k) ≡ true → most_lost 0 (cut k) < limit → user_words received ≡ arrivals (cut k) → due_reports (cut k) ≡ []
    → Claim plain_rules between limit (reports_to (step plain_rules) empty) → ⊥
unfolding computing
joined_wrongly between limit k apart few order none claim =
    let e : ◌≡◌ {A = List Plain} ((401 ∷ 7 ∷ 8 ∷ []) ∷ []) [] =
    claim (cut k) received (formed3 true true false, formed k) (by_test between (cut k) apart) (few-lost limit (cut k) few) order ∙ none in
    let z : ◌≡◌ {A = ℕ} 0 1 = cc in
    omega arith

pub five_lost : Claim plain_rules 5 6 (reports_to (step plain_rules) empty) → ⊥
unfolding computing
five_lost = joined_wrongly 5 6 5 refl (lit< tt) refl refl

pub four_between : Claim plain_rules 4 5 (reports_to (step plain_rules) empty) → ⊥
unfolding computing
four_between = joined_wrongly 4 5 4 refl (lit< tt) refl refl
