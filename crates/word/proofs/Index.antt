-- A continuity index of 1 to 6 fits its three bits.
use Prim.Native.Nat.{ℕ}
use mathlib.Core.Path.{◌≡◌, refl, ap}
use mathlib.Core.Bool.{Bool, true, false, ◌&&◌}
use native.Mathlib.Omega.{arith}
use lib.Dec.{ltb, leb}
use borrow.Author.Tests.{leb-true, lt-ltb}
use Rattle.bits.proofs.Choice.{and_right}
use Rattle.word.specs.Compose.{is_index}

-- a test that another one implies may be left out
implied : (a b f : Bool) → (a ≡ true → b ≡ true) → a && (b && f) ≡ a && f
implied true b f h = ap (λ (x : Bool). x && f) (h refl)
implied false b f h = refl

index_lt : (ci : ℕ) → is_index ci ≡ true → ltb ci 8 ≡ true
unfolding is_index
index_lt ci h =
    let l = leb-true ci 6 (and_right (leb 1 ci) (leb ci 6) h) in
    lt-ltb ci 8 (omega arith)

pub index_fits : (ci : ℕ) (f : Bool) → is_index ci && (ltb ci 8 && f) ≡ is_index ci && f
index_fits ci f = implied (is_index ci) (ltb ci 8) f (index_lt ci)
