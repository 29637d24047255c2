-- A well-formed message has at most five groups: GSI has two bits.
use Prim.Native.Nat.{ℕ, suc, ◌≤◌}
use mathlib.Core.Path.{◌≡◌, refl, ap}
use mathlib.Core.List.{List}
use native.Mathlib.Omega.{arith}
use lib.ListN.{length}
use Rattle.transmission.specs.Reading.{Rules}
use Rattle.transmission.specs.Message.{Group, Falling, end, next, WellFormed, alone, joined}
use Rattle.transmission.proofs.Words.{later_range}

pub still_to_come : {ci gsi : ℕ} {cs : List ℕ} {gs : List Group} → Falling ci gsi cs gs → length gs ≡ gsi
still_to_come end = refl
still_to_come (next k f) = ap suc (still_to_come f)

pub at_most_five : {R E : Type 0} {rules : Rules R E} {gs : List Group} {r : R} → WellFormed rules gs r → length gs ≤ 5
at_most_five (alone k) = omega arith
at_most_five (joined {g = g} first second rest reads) =
    let range = later_range g.word second in
    let all = still_to_come rest in
    omega arith
