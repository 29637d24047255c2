-- The real location is put before the packed items.
use Prim.Native.Nat.{ℕ}
use native.Mathlib.Omega.{arith}
use mathlib.Core.Path.{◌≡◌, sym, ap₂, ◌∙◌}
use Rattle.std.specs.Prelude.{Ok}
use Rattle.content.specs.declared.content.Content.{Content}
use Rattle.content.specs.declared.rest.Rest.{Rest}
use Rattle.content.specs.Answers.{packed_of}
use Rattle.report.proofs.Places.{place_small}
use Rattle.report.proofs.Multi.{content_short}
use Rattle.report_write.proofs.Kept.{packs, bits_told, content_told}
use Rattle.report_write.proofs.content_of.Goals as goal

pub unwrap-packed-requires : goal.unwrap-packed-requires
unwrap-packed-requires c = rw (c.pack.ensures, packs c.args.r c.requires)

pub prefixed-requires : goal.prefixed-requires
prefixed-requires c =
    let r = c.args.r in
    omega (arith, c.items_at-at.ensures, place_small r.form r.head)

pub overflow_add-result : goal.overflow_add-result
overflow_add-result c =
    let r = c.args.r in
    let got : packed_of r.items ≡ Ok c.unwrap-packed.result = sym c.pack.ensures ∙ c.unwrap-packed.ensures in
    omega (arith, bits_told r c.requires _ got _ c.items_at-at.ensures, content_short r c.requires)

pub returns : goal.returns
returns c =
    let r = c.args.r in
    let got : packed_of r.items ≡ Ok c.unwrap-packed.result = sym c.pack.ensures ∙ c.unwrap-packed.ensures in
    ap₂ (λ (x : Content) (n : ℕ). let w : Rest = record { bits = x; left = n } in w)
    (c.prefixed.ensures ∙ content_told r c.requires _ got _ c.items_at-at.ensures)
    (bits_told r c.requires _ got _ c.items_at-at.ensures)
