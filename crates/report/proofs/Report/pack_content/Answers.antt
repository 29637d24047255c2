-- The items are packed, and their bits are the first 14 bytes.
use Prim.Native.Nat.{ℕ}
use mathlib.Core.Path.{◌≡◌, sym, ap, ◌∙◌}
use mathlib.Core.List.{List, ◌++◌}
use lib.ListN.{drop}
use Rattle.std.specs.Prelude.{Ok}
use Rattle.bits.specs.Fields.{words}
use Rattle.content.specs.declared.pack.Packed.{Packed}
use Rattle.content.specs.Halves.{bits_of}
use Rattle.content.specs.Stored.{listed}
use Rattle.content.specs.Answers.{packed}
use Rattle.report.specs.Record.{content_bytes, groups_for, groups_of}
use Rattle.report.proofs.Kept.{is_packed, kept-packed, kept-bytes, packed-whole, no_room-kept, unfit-kept}
use Rattle.report.proofs.Report.pack_content.Goals as goal

pub returns-then-not-fits-clause-value : goal.returns-then-not-fits-clause-value
returns-then-not-fits-clause-value c = let a = c.args in (unfit-kept a.self a.out.now (sym c.fits.ensures ∙ c.if-not-fits.true)).0

pub returns-then-not-fits-clause-out_after : goal.returns-then-not-fits-clause-out_after
returns-then-not-fits-clause-out_after c = let a = c.args in (unfit-kept a.self a.out.now (sym c.fits.ensures ∙ c.if-not-fits.true)).1

pub returns-then-out-lt-CONTENT-clause-value : goal.returns-then-out-lt-CONTENT-clause-value
returns-then-out-lt-CONTENT-clause-value c = let a = c.args in (no_room-kept a.self a.out.now (sym c.fits.ensures ∙ c.if-not-fits.false) c.if-out-lt-CONTENT.true).0

pub returns-then-out-lt-CONTENT-clause-out_after : goal.returns-then-out-lt-CONTENT-clause-out_after
returns-then-out-lt-CONTENT-clause-out_after c = let a = c.args in (no_room-kept a.self a.out.now (sym c.fits.ensures ∙ c.if-not-fits.false) c.if-out-lt-CONTENT.true).1

-- a report that fits is packed
pub returns-in_err-packed-clause-value : goal.returns-in_err-packed-clause-value
returns-in_err-packed-clause-value c = absurd (is_packed c.args.self (sym c.fits.ensures ∙ c.if-not-fits.false) _ c.in_err-packed.ensures)

pub returns-in_err-packed-clause-out_after : goal.returns-in_err-packed-clause-out_after
returns-in_err-packed-clause-out_after c = absurd (is_packed c.args.self (sym c.fits.ensures ∙ c.if-not-fits.false) _ c.in_err-packed.ensures)

pub returns-clause-value : goal.returns-clause-value
unfolding packed groups_of
returns-clause-value c =
    let a = c.args in
    let fit = sym c.fits.ensures ∙ c.if-not-fits.false in
    let p : c.in_ok-packed.packed ≡ packed (listed a.self.items) = kept-packed a.self fit c.in_ok-packed.packed c.in_ok-packed.ensures in
    ap Ok (c.groups_for.ensures ∙ ap (λ (x : Packed). groups_for a.self.form x.bits) p) ∙ (packed-whole a.self a.out.now fit c.if-out-lt-CONTENT.false).0

pub returns-clause-out_after : goal.returns-clause-out_after
returns-clause-out_after c =
    let a = c.args in
    let fit = sym c.fits.ensures ∙ c.if-not-fits.false in
    let p : c.in_ok-packed.packed ≡ packed (listed a.self.items) = kept-packed a.self fit c.in_ok-packed.packed c.in_ok-packed.ensures in
    ap (λ (l : List ℕ). l ++ drop 14 a.out.now) (c.put_content.ensures ∙ ap (λ (x : Packed). words 8 content_bytes (bits_of x.content)) p ∙ kept-bytes a.self fit)
    ∙ (packed-whole a.self a.out.now fit c.if-out-lt-CONTENT.false).1
