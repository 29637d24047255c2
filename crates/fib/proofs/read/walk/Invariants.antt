-- The words before `count` are in their cells, and the walk has reached byte `at`.
use Prim.Native.Nat.{ℕ, ◌-◌}
use mathlib.Core.Path.{◌≡◌}
use mathlib.Core.List.{List}
use lib.ListN.{length, take}
use Rattle.fib.specs.Walk.{Carried}
use Rattle.fib.specs.Read.{origin_of, room_in, cells_after}
use Rattle.fib.proofs.Walking.{over, Reached}
use Rattle.fib.proofs.read.walk.Given as goal

-- the numbers in the cells of each buffer
abbrev pub word-of : Carried → ℕ
word-of w = w.word

abbrev pub origin-of : Carried → ℕ
origin-of w = origin_of w.fig

-- the words that all FIGs give
abbrev pub found_in : List ℕ → List ℕ → List ℕ → List Carried
found_in s words₀ origins₀ = (over 0 (room_in words₀ origins₀) s).found

abbrev pub invariant-loop-n : goal.invariant-loop-n
invariant-loop-n l =
    Reached l.s (room_in l.initial.words l.initial.origins) l.fib.at l.fib.count
    × (l.words ≡ cells_after word-of (take l.fib.count (found_in l.s l.initial.words l.initial.origins)) l.initial.words)
    × (l.origins ≡ cells_after origin-of (take l.fib.count (found_in l.s l.initial.words l.initial.origins)) l.initial.origins)

abbrev pub decreases-loop-n : goal.decreases-loop-n
decreases-loop-n l = length l.s - l.fib.at
