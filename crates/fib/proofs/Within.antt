-- The FIGs of a block are in its data field.
use Prim.Native.Nat.{ℕ, ◌+◌, ◌≤◌}
use native.Mathlib.Omega.{arith}
use mathlib.Core.Path.{◌≡◌, ap}
use mathlib.Core.List.{List, [], ◌∷◌, ◌++◌}
use lib.ListN.{length, length-append}
use Rattle.std.specs.Prelude.{Ok}
use Rattle.bits.specs.Lists.{joined}
use Rattle.crc.specs.Block.{payload}
use Rattle.crc.proofs.Blocks.{length-payload}
use Rattle.fib.specs.Figs.{figs, rest}
use Rattle.fib.specs.Structure.{IsFig, AllFigs, more}
use Rattle.fib.specs.Read.{check_block}
use Rattle.fib.proofs.Structure.{structure}
use Rattle.fib.proofs.Blocks.{block_length_lem}

-- one of some FIGs is a FIG, and it ends where they all have ended or before
pub fig_among : (before : List (List ℕ)) (f : List ℕ) (behind : List (List ℕ)) → AllFigs (before ++ f ∷ behind) → IsFig f
fig_among [] f behind (more fig others) = fig
fig_among (g ∷ before) f behind (more fig others) = fig_among before f behind others

pub joined_among : (before : List (List ℕ)) (f : List ℕ) (behind : List (List ℕ)) → length (joined before) + length f ≤ length (joined (before ++ f ∷ behind))
unfolding joined
joined_among [] f behind = omega (arith, length-append f (joined behind))
joined_among (g ∷ before) f behind = omega (arith, length-append g (joined before), length-append g (joined (before ++ f ∷ behind)), joined_among before f behind)

-- together they have no more bytes than the data field
pub figs_short : (s : List ℕ) → check_block s ≡ Ok tt → length (joined (figs (payload s))) ≤ 30
figs_short s z =
    omega (arith, ap length (structure (payload s)).all, length-append (joined (figs (payload s))) (rest (payload s)), length-payload s, block_length_lem s 0 z)
