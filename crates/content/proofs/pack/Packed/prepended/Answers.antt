-- Each exit is one law of an item put before packed items.
use Prim.Native.Nat.{ℕ, ◌+◌, ◌-◌}
use native.Mathlib.Omega.{arith}
use mathlib.Core.Path.{◌≡◌, sym, ap, ◌∙◌}
use mathlib.Core.Bool.{true}
use mathlib.Core.List.{◌∷◌, ◌++◌}
use lib.ListN.{take}
use Rattle.bits.specs.Bits.{bits}
use Rattle.content.specs.Widths.{label_width, width}
use Rattle.content.specs.Packing.{item_fits}
use Rattle.content.specs.Halves.{bits_of, content_of}
use Rattle.content.specs.Answers.{packed}
use Rattle.content.specs.declared.pack.Packed.{Packed}
use Rattle.content.proofs.Prepending.{prepend-unfit, prepend_long, prepend-packable, prepend-content}
use Rattle.content.proofs.pack.Packed.prepended.Goals as goal

pub returns-then-not-fits : goal.returns-then-not-fits
returns-then-not-fits c =
    let a = c.args in
    λ its p e. rw (prepend-unfit a.item its (sym c.fits.ensures ∙ c.if-not-fits.true))

pub returns-then-size-self : goal.returns-then-size-self
returns-then-size-self c =
    let a = c.args in
    let w = c.width_of-w.ensures.0 in
    λ its p e. rw (prepend_long a.self its p e a.item (omega arith))

pub returns : goal.returns
returns c =
    let a = c.args in
    let w = c.width_of-w.ensures.0 in
    let fit : item_fits a.item ≡ true = sym c.fits.ensures ∙ c.if-not-fits.false in
    let v : c.prefixed-value.result ≡ content_of (bits (width a.item.label) a.item.value ++ take (128 - width a.item.label) (bits_of a.self.content)) =
    c.prefixed-value.ensures ∙ ap (λ (k : ℕ). content_of (bits k a.item.value ++ take (128 - k) (bits_of a.self.content))) w in
    λ its p e.
    let same : record { bits = label_width + c.width_of-w.result + a.self.bits; content = c.prefixed.result } ≡ packed (a.item ∷ its) =
    ap (λ (k : ℕ). let q : Packed = record { bits = label_width + k + a.self.bits; content = c.prefixed.result } in q) w
    ∙ prepend-content a.self its p e a.item fit (omega arith) c.prefixed-value.result c.prefixed.result v c.prefixed.ensures in
    rw (prepend-packable a.self its p e a.item fit (omega arith), same)
