-- What a FIG 5/1 is by its header, and that the FIG reader takes no other.
use Prim.Native.Nat.{ℕ, ◌-◌, ◌/◌, ◌%◌, ◌≤◌, ◌<◌}
use native.Mathlib.Nat.{div-one}
use mathlib.Core.Path.{◌≡◌, sym, ap, ap₂, ◌∙◌}
use mathlib.Core.Bool.{Bool, true, false, ◌&&◌}
use mathlib.Core.List.{List}
use lib.ListN.{length, take}
use lib.Dec.{leb, eqb}
use borrow.Author.Tests.{le-leb, lt-leb}
use Rattle.std.specs.Prelude.{Ok}
use Rattle.refusal.proofs.Checks.{passed}
use Rattle.fig.specs.declared.Reading.{Reading}
use Rattle.bits.specs.Bits.{val}
use Rattle.bits.specs.Fields.{flat}
use Rattle.bits.proofs.Formats.{parts, unpack-bits}
use Rattle.fig.specs.Format.{fig_format, type_in, following_in, extension_in}
use Rattle.fig.specs.Read.{fields, check_fields, check_head, read_fig}
use Rattle.fig.proofs.Header.{fields_of, length_fits}
use Rattle.fig.proofs.Answers.{taken-head}
use Rattle.fib.specs.Walk.{is_tmc}

-- a header that passes
module _ (f : List ℕ) (e : check_head f ≡ Ok tt) where
  named : (eqb (type_in (fields f)) 5 ≡ true) × (eqb (extension_in (fields f)) 1 ≡ true)
  unfolding check_head check_fields
  named =
      let h = fields f in
      let long = passed (leb 2 (length f) && leb (length f) 30) _ _ tt e in
      let type = passed (eqb (type_in h) 5) _ _ tt long.1 in
      let count = passed (eqb (following_in h) (length f - 1)) _ _ tt type.1 in
      (type.0, (passed (eqb (extension_in h) 1) _ _ tt count.1).0)

  head-tmc : is_tmc f ≡ true
  unfolding is_tmc
  head-tmc = ap₂ (λ (a b : Bool). a && b) (le-leb 2 (length f) (length_fits f e).0) (ap₂ (λ (a b : Bool). a && b) named.0 named.1)

pub taken_is_tmc : (f : List ℕ) (room : ℕ) (r : Reading) → read_fig f room ≡ Ok r → is_tmc f ≡ true
taken_is_tmc f room r e = head-tmc f (taken-head f room r e)

-- the same as the code finds it
pub too_short : (f : List ℕ) → length f < 2 → is_tmc f ≡ false
unfolding is_tmc
too_short f h = ap (λ (t : Bool). t && (eqb (type_in (fields f)) 5 && eqb (extension_in (fields f)) 1)) (lt-leb 2 (length f) h)

pub by_header : (f : List ℕ) → 2 ≤ length f → let n = val (flat 8 (take 2 f)) in is_tmc f ≡ eqb (n / 8192 % 8) 5 && eqb (n % 8) 1
unfolding is_tmc
by_header f h =
    let n = val (flat 8 (take 2 f)) in
    let header : fields f ≡ parts fig_format n = sym (fields_of f h) ∙ unpack-bits fig_format n in
    ap (λ (t : Bool). t && (eqb (type_in (fields f)) 5 && eqb (extension_in (fields f)) 1)) (le-leb 2 (length f) h)
    ∙ ap (λ (fs : List ℕ). eqb (type_in fs) 5 && eqb (extension_in fs) 1) header
    ∙ rw div-one
