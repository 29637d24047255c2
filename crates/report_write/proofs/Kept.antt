-- The content bits of a multi-group report from what the packer gives.
use Prim.Native.Nat.{ℕ, ◌+◌, ◌-◌}
use native.Mathlib.Omega.{arith}
use mathlib.Core.Path.{◌≡◌, sym, ap₂, ◌∙◌}
use mathlib.Core.Bool.{true}
use mathlib.Core.List.{◌++◌}
use lib.ListN.{length, take}
use Rattle.std.specs.Prelude.{Ok}
use Rattle.bits.specs.Bits.{bits}
use Rattle.content.specs.declared.pack.Packed.{Packed}
use Rattle.content.specs.Halves.{bits_of, starting_with, content_of as kept}
use Rattle.content.specs.Packing.{packing}
use Rattle.content.specs.Stored.{listed}
use Rattle.content.specs.Answers.{packed, packed_of}
use Rattle.content.proofs.Prepending.{prefix_starting}
use Rattle.report.specs.declared.Report.{Report}
use Rattle.report.specs.InterRoad.{items_at, real_bits, content_of}
use Rattle.report.specs.Fits.{multi_fits}
use Rattle.report.proofs.Places.{length-content}
use Rattle.report.proofs.Multi.{items-fit, content_short, fit-packed}

module _ (r : Report) (fit : multi_fits r ≡ true) where
  -- the items are packed
  pub packs : packed_of r.items ≡ Ok (packed (listed r.items))
  packs = fit-packed r.items (items-fit r fit)

  -- the bits of the items are those of the content behind the real location
  pub all-bits : items_at r.form r.head + length (packing (listed r.items)) ≡ length (content_of r)
  all-bits = sym (length-content r)

  -- with the real location put before them they are the content
  pub with_real : kept (bits (items_at r.form r.head) r.real ++ take (128 - items_at r.form r.head) (bits_of (starting_with (packing (listed r.items))))) ≡ starting_with (content_of r)
  unfolding real_bits content_of
  with_real = prefix_starting (packing (listed r.items)) (items_at r.form r.head) r.real (omega (arith, length-content r, content_short r fit))

  -- what the code makes of the packed items
  module _ (p : Packed) (e : packed_of r.items ≡ Ok p) (at : ℕ) (ea : at ≡ items_at r.form r.head) where
    same : p ≡ packed (listed r.items)
    same = cc (packs, e)

    pub bits_told : at + p.bits ≡ length (content_of r)
    unfolding packed
    bits_told = ap₂ (λ (n : ℕ) (q : Packed). n + q.bits) ea same ∙ all-bits

    pub content_told : kept (bits at r.real ++ take (128 - at) (bits_of p.content)) ≡ starting_with (content_of r)
    unfolding packed
    content_told = ap₂ (λ (n : ℕ) (q : Packed). kept (bits n r.real ++ take (128 - n) (bits_of q.content))) ea same ∙ with_real
