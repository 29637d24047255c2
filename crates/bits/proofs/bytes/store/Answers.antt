-- The bytes from i on are the low bytes of v, and what is left of v is what lies above them.
use Prim.Native.Nat.{ℕ, suc, ◌-◌, ◌/◌, ◌%◌, ◌<◌}
use native.Mathlib.Nat.{div-one, add-zero}
use native.Mathlib.Omega.{arith}
use mathlib.Core.Path.{◌≡◌, sym, ap, ap₂, ◌∙◌}
use mathlib.Core.List.{List, ◌++◌, append-nil}
use lib.ListN.{length, take, set}
use lib.Seq.{take-length}
use Rattle.bits.specs.Fields.{words}
use Rattle.bits.proofs.Loading.{low_bytes, store-more, rest_more}
use Rattle.bits.proofs.bytes.store.Goals as goal
use Rattle.bits.proofs.bytes.store.Invariants.{Stored}

start : (s₀ : List ℕ) (v : ℕ) → Stored s₀ v s₀ v (length s₀)
unfolding words
start s₀ v =
    record {
      done = 0;
      total = add-zero (length s₀);
      bytes = sym (append-nil (take (length s₀) s₀) ∙ take-length s₀);
      above = sym (div-one v);
    }

more : (s₀ : List ℕ) (v : ℕ) (s : List ℕ) (rest i : ℕ) → 0 < i → Stored s₀ v s rest i → Stored s₀ v (set s (i - 1) (rest % 256)) (rest / 256) (i - 1)
more s₀ v s rest i g h =
    let e : i ≡ suc (i - 1) = omega arith in
    record {
      done = suc h.done;
      total = omega (arith, h.total);
      bytes =
          ap₂ (λ (l : List ℕ) (x : ℕ). set l (i - 1) (x % 256)) (h.bytes ∙ ap (λ (n : ℕ). take n s₀ ++ low_bytes h.done v) e) h.above
          ∙ store-more s₀ (i - 1) h.done v (omega (arith, h.total));
      above = ap (λ (x : ℕ). x / 256) h.above ∙ rest_more h.done v;
    }

pub loop-i-init : goal.loop-i-init
loop-i-init c = start _ _

pub loop-i-preserved : goal.loop-i-preserved
loop-i-preserved c = more _ _ _ _ _ c.loop-i-test.true c.loop-i.invariant
