-- A block that is refused, and one that is not.
use Prim.Native.Nat.{ℕ, ◌-◌}
use mathlib.Core.Path.{◌≡◌, sym, ap, ◌∙◌}
use mathlib.Core.List.{List, []}
use lib.ListN.{length, take}
use lib.Seq.{length-take-le}
use native.Mathlib.Omega.{arith}
use lib.Dec.{eqb}
use borrow.Author.Tests.{eqb-true}
use Rattle.std.specs.Prelude.{Result, Ok, Err, ⊤, is_ok}
use Rattle.refusal.specs.declared.Refusal.{Refusal}
use Rattle.bits.proofs.Choice.{chosen, passed_over}
use Rattle.refusal.proofs.Checks.{passed, first, second}
use Rattle.crc.specs.Block.{payload}
use Rattle.fib.specs.Walk.{Carried}
use Rattle.fib.specs.Read.{check_block, block_walk, ending, read_block, read_words, cells_after}
use Rattle.fib.proofs.Walking.{cells_none}

-- the bytes before the check word
pub data_field : (s : List ℕ) → length s ≡ 32 → take 30 s ≡ payload s
data_field s e = ap (λ (n : ℕ). take (n - 2) s) (sym e)

pub field_length : (s : List ℕ) → length s ≡ 32 → length (take 30 s) ≡ 30
field_length s e = length-take-le 30 s (omega arith)

module _ (s : List ℕ) (room : ℕ) where
  module _ (e : check_block s ≡ Ok tt) where
    pub block_length_lem : length s ≡ 32
    unfolding check_block
    block_length_lem = eqb-true (length s) 32 (passed (eqb (length s) 32) _ _ tt e).0

    pub block_read : read_block s room ≡ Ok (ending (block_walk s room))
    unfolding read_block
    block_read = second (check_block s) _ tt e

    pub block_words : read_words s room ≡ (block_walk s room).found
    unfolding read_words
    block_words = chosen _ _ _ (ap (λ (r : Result ⊤ Refusal). is_ok r) e)

  module _ (x : Refusal) (e : check_block s ≡ Err x) where
    pub block_refused : read_block s room ≡ Err x
    unfolding read_block
    block_refused = first (check_block s) _ x e

    pub no_words : read_words s room ≡ []
    unfolding read_words
    no_words = passed_over _ _ _ (ap (λ (r : Result ⊤ Refusal). is_ok r) e)

    pub cells_kept : (number : Carried → ℕ) (out : List ℕ) → cells_after number (read_words s room) out ≡ out
    cells_kept number out = ap (λ (cs : List Carried). cells_after number cs out) no_words ∙ cells_none number out
