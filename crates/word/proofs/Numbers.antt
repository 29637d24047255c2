-- The fields of a word in the head format are in range, so those of its head are.
use Prim.Native.Nat.{ℕ}
use mathlib.Core.Path.{◌≡◌}
use mathlib.Core.Bool.{true}
use mathlib.Core.List.{◌∷◌}
use lib.Dec.{ltb}
use Rattle.bits.specs.Fields.{fits}
use Rattle.bits.proofs.Choice.{and_right}
use Rattle.word.specs.declared.Head.{Head}
use Rattle.word.specs.Format.{head_part, head_format}
use Rattle.word.specs.Compose.{head_values}

module _ (t f x y : ℕ) (h : Head) (fit : fits head_format (t ∷ f ∷ x ∷ y ∷ head_values h) ≡ true) where
  pub head-fits : fits head_part (head_values h) ≡ true
  unfolding fits
  head-fits = and_right (ltb y 2) _ (and_right (ltb x 8) _ (and_right (ltb f 2) _ (and_right (ltb t 2) _ fit)))
