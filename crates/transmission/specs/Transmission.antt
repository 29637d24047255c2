-- The messages of a transmission in the order sent, and what may be lost of them (document 01, "The assembler").
use Rattle.std.specs.Prelude.{ℕ, ◌+◌, ◌≤◌, ◌<◌, ◌≡◌, true, cond, ◌&&◌, List, [], ◌∷◌, ◌++◌, length, leb}
use Rattle.transmission.specs.Message.{Group, Message, arrived_of, whole, lost, OfIndex}

-- two multi-group messages of one index have at least k others between them
abbrev pub Spaced : {R : Type 0} → ℕ → List (Message R) → Type 0
Spaced {R} k sent =
    (ci : ℕ) (before between behind : List (Message R)) (a b : Message R)
    → OfIndex ci a.groups → OfIndex ci b.groups → sent ≡ before ++ (a ∷ (between ++ (b ∷ behind)))
    → k ≤ length between

-- the groups in the order sent
unfoldable pub groups_of : {R : Type 0} → List (Message R) → List Group
groups_of [] = []
groups_of (m ∷ sent) = m.groups ++ groups_of sent

-- how many messages have all their groups at the positions from `from` up to `to`; the first one begins at `position`
unfoldable pub held : {R : Type 0} → ℕ → ℕ → ℕ → List (Message R) → ℕ
held from to position [] = 0
held from to position (m ∷ sent) =
    let beyond = position + length m.groups in
    cond (leb from position && leb beyond to) 1 0 + held from to beyond sent

-- an unbroken loss is a run of lost groups, neighbours in the order sent; none holds k messages
abbrev pub NoLossHolds : {R : Type 0} → ℕ → List (Message R) → Type 0
NoLossHolds k sent =
    (before run behind : List Group) → groups_of sent ≡ before ++ (run ++ behind) → lost run ≡ true
    → held (length before) (length before + length run) 0 sent < k

-- the words of the groups that arrived, in order
unfoldable pub arrivals : {R : Type 0} → List (Message R) → List ℕ
arrivals [] = []
arrivals (m ∷ sent) = arrived_of m.groups ++ arrivals sent

-- the reports of the messages that arrived whole, in order
unfoldable pub due_reports : {R : Type 0} → List (Message R) → List R
due_reports [] = []
due_reports (m ∷ sent) = cond (whole m.groups) (m.report ∷ due_reports sent) (due_reports sent)
