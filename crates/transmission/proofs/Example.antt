-- Two transmissions that meet every condition of demand 3, and what the theorem says of them: one with a message cut by a loss, whole messages
-- lost and other words among those received; one with two losses of four whole messages each, and a message of five groups.
use Prim.Native.Nat.{ℕ}
use mathlib.Core.Path.{◌≡◌, refl}
use mathlib.Core.Bool.{true, false}
use mathlib.Core.List.{List, [], ◌∷◌}
use lib.Dec.{lit<}
use Rattle.word.specs.Samples.{single101, first401, later401, stray401, head401}
use Rattle.transmission.specs.State.{empty}
use Rattle.transmission.specs.Step.{step}
use Rattle.transmission.specs.Calls.{reports_to}
use Rattle.transmission.specs.Message.{Message, end, joined}
use Rattle.transmission.proofs.FewLost.{few-lost}
use Rattle.transmission.proofs.Spacing.{by_test}
use Rattle.transmission.proofs.Samples.{computing, Plain, plain_rules, Formed, sent1, sent2, sent3, sent5, formed1, formed2, formed3, formed5}
use Rattle.transmission.proofs.Demand3.{demand3}

-- two groups of index 3, both lost
abbrev unheard : Message Plain
unheard = record { groups = record { word = 0x03899101F4; arrived = false } ∷ record { word = stray401; arrived = false } ∷ []; report = 401 ∷ 0x3502000 ∷ [] }

formed_unheard : Formed unheard
unfolding computing
formed_unheard = joined {ci = 3} {gsi = 0} {c = 0x3502000} {head = head401} refl refl end refl

-- one loss takes the end of the second message and the four messages after it, another the first two groups of the last but one
abbrev sent : List (Message Plain)
sent =
    sent2 true true
    ∷ sent3 true true false
    ∷ sent1 false
    ∷ unheard
    ∷ sent1 false
    ∷ sent1 false
    ∷ sent1 true
    ∷ sent3 false false true
    ∷ sent2 true true
    ∷ []

-- with a tuning word, an administration word, one of continuity index 7 and a number that is no word
abbrev received : List ℕ
received =
    first401
    ∷ 0x1000000000
    ∷ later401
    ∷ 0x01899101F4
    ∷ 0x0012345678
    ∷ 0x0150000007
    ∷ 0x0700000000
    ∷ single101
    ∷ 0x0100000008
    ∷ 0x2000000000
    ∷ first401
    ∷ later401
    ∷ []

pub example : reports_to (step plain_rules) empty received ≡ (401 ∷ 0x3502000 ∷ []) ∷ (101 ∷ []) ∷ (401 ∷ 0x3502000 ∷ []) ∷ []
unfolding computing
example =
    demand3 plain_rules sent received
    (formed2 true true, (formed3 true true false, (formed1 false, (formed_unheard, (formed1 false, (formed1 false, (formed1 true, (formed3 false false true, (formed2 true true, tt)))))))))
    (by_test 5 sent refl) (few-lost 5 sent (lit< tt)) refl

-- two losses of four whole messages each, eight in all, with one group heard between them; at the end a message of five groups
abbrev four_twice : List (Message Plain)
four_twice =
    sent2 true true
    ∷ sent1 false
    ∷ sent1 false
    ∷ sent1 false
    ∷ sent1 false
    ∷ sent3 false true false
    ∷ sent1 false
    ∷ sent1 false
    ∷ sent1 false
    ∷ unheard
    ∷ sent5
    ∷ []

abbrev heard_twice : List ℕ
heard_twice = first401 ∷ later401 ∷ 0x0150000007 ∷ 0x04899101F4 ∷ 0x0470000001 ∷ 0x0420000002 ∷ 0x0410000003 ∷ 0x0400000004 ∷ []

pub two_losses : reports_to (step plain_rules) empty heard_twice ≡ (401 ∷ 0x3502000 ∷ []) ∷ (401 ∷ 1 ∷ 2 ∷ 3 ∷ 4 ∷ []) ∷ []
unfolding computing
two_losses =
    demand3 plain_rules four_twice heard_twice
    (formed2 true true, (formed1 false, (formed1 false, (formed1 false, (formed1 false, (formed3 false true false, (formed1 false, (formed1 false, (formed1 false, (formed_unheard, (formed5, tt)))))))))))
    (by_test 5 four_twice refl) (few-lost 5 four_twice (lit< tt)) refl
