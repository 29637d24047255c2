-- The first record that a test holds of, from record i on.
use Prim.Native.Nat.{ℕ, ◌+◌, ◌-◌, ◌*◌, ◌<◌}
use mathlib.Core.Path.{◌≡◌, ap, ◌∙◌}
use mathlib.Core.Bool.{Bool, true, false, cond, not}
use mathlib.Core.List.{List}
use lib.ListN.{drop}
use Rattle.record.specs.Layout.{record_size}
use Rattle.lent.specs.Records.{chunks}
use Rattle.lent.proofs.Passes.{nth, rest_of, rest-none}
use Rattle.std.specs.List.{position_or_len}

module _ (p : List ℕ → Bool) (n i : ℕ) (t : List ℕ) where
  pub first_here : i < n → p (nth t i) ≡ true → position_or_len p (chunks (n - i) (drop (i * record_size) t)) ≡ 0
  first_here h e = ap (position_or_len p) (rest_of n i t h) ∙ ap (λ (b : Bool). cond (not b) (1 + position_or_len p (chunks (n - (i + 1)) (drop ((i + 1) * record_size) t))) 0) e

  pub first-later : i < n → p (nth t i) ≡ false → position_or_len p (chunks (n - i) (drop (i * record_size) t)) ≡ 1 + position_or_len p (chunks (n - (i + 1)) (drop ((i + 1) * record_size) t))
  first-later h e = ap (position_or_len p) (rest_of n i t h) ∙ ap (λ (b : Bool). cond (not b) (1 + position_or_len p (chunks (n - (i + 1)) (drop ((i + 1) * record_size) t))) 0) e

  pub first-end : i ≡ n → position_or_len p (chunks (n - i) (drop (i * record_size) t)) ≡ 0
  first-end e = ap (position_or_len p) (rest-none n i (drop (i * record_size) t) e)
