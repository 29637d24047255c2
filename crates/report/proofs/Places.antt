-- The place of the real location.
use Prim.Native.Nat.{ℕ, ◌+◌, ◌≤◌, ◌<◌, ◌^◌}
use native.Mathlib.Nat.{lt_of_lt_of_le}
use native.Mathlib.Omega.{arith}
use mathlib.Core.Path.{◌≡◌, sym, ap, ◌∙◌}
use mathlib.Core.Bool.{Bool, true, false, cond, ◌||◌}
use mathlib.Core.List.{List}
use lib.ListN.{length, take, length-append}
use lib.Pow.{pow_mono}
use lib.Dec.{eqb, ltb}
use borrow.Author.Tests.{eq-eqb, ne_eqb, lt-ltb, ltb-true, ltb-false}
use Rattle.bits.specs.Bits.{val}
use Rattle.bits.proofs.Choice.{either}
use Rattle.bits.proofs.Value.{length-bits, val-take_lt}
use Rattle.word.specs.declared.Head.{Head}
use Rattle.content.specs.Packing.{packing}
use Rattle.content.specs.Stored.{listed}
use Rattle.report.specs.declared.Report.{Report}
use Rattle.report.specs.declared.Form.{Form}
use Rattle.report.specs.InterRoad.{inter_road, items_at, real_bits, content_of}
use Rattle.report.specs.Fits.{real_fits}

pub place_small : (form : Form) (h : Head) → items_at form h ≤ 16
unfolding items_at
place_small form h = by_test (inter_road form h)
  where
    by_test : (b : Bool) → cond b 16 0 ≤ 16
    by_test true = omega arith
    by_test false = omega arith

-- what stands in the place has no more than 16 bits
pub real_lt : (form : Form) (h : Head) (l : List Bool) → val (take (items_at form h) l) < 2 ^ 16
real_lt form h l = lt_of_lt_of_le (val-take_lt (items_at form h) l) (pow_mono (place_small form h))

-- a place of 16 bits holds every number of 16 bits, and no place only 0
pub real_in_place : (form : Form) (h : Head) (real : ℕ) → real < 2 ^ 16 → eqb real 0 || inter_road form h ≡ real_fits form h real
unfolding real_fits items_at
real_in_place form h real small = by_test (inter_road form h)
  where
    by_test : (b : Bool) → eqb real 0 || b ≡ ltb real (2 ^ cond b 16 0)
    by_test true = either (eqb real 0) (λ e. ap (λ (x : Bool). x || true) e) (λ e. ap (λ (x : Bool). x || true) e) ∙ sym (lt-ltb real (2 ^ 16) small)
    by_test false =
        either (ltb real 1)
        (λ e. let k = ltb-true real 1 e in ap (λ (x : Bool). x || false) (eq-eqb real 0 (omega arith)) ∙ sym e)
        (λ e. let k = ltb-false real 1 e in ap (λ (x : Bool). x || false) (ne_eqb real 0 (λ q. omega arith)) ∙ sym e)

pub length_real : (r : Report) → length (real_bits r) ≡ items_at r.form r.head
unfolding real_bits
length_real r = length-bits (items_at r.form r.head) r.real

pub length-content : (r : Report) → length (content_of r) ≡ items_at r.form r.head + length (packing (listed r.items))
unfolding content_of
length-content r = length-append (real_bits r) (packing (listed r.items)) ∙ ap (λ (n : ℕ). n + length (packing (listed r.items))) (length_real r)
