-- What the packer's answer says of the items.
use Prim.Native.Nat.{ℕ, ◌≤◌}
use mathlib.Core.Path.{◌≡◌, sym, ap, subst, ◌∙◌}
use mathlib.Core.Bool.{Bool, true, false, ◌&&◌, and_assoc}
use lib.ListN.{length}
use Rattle.std.specs.Prelude.{Result, Ok, Err}
use Rattle.refusal.specs.declared.Refusal.{Refusal}
use Rattle.bits.proofs.Outcomes.{refused-gives-none}
use Rattle.bits.proofs.Choice.{either, and_left}
use Rattle.content.specs.declared.items.Items.{Items}
use Rattle.content.specs.declared.pack.Packed.{Packed}
use Rattle.content.specs.Packing.{longest, packing, writable}
use Rattle.content.specs.Stored.{limit, listed, well_placed}
use Rattle.content.specs.Answers.{packed, packed_of}
use Rattle.content.proofs.Places.{well_placed-count}
use Rattle.content.proofs.Prepending.{packed-unfit, packed-fit}
use Rattle.content.proofs.WrittenIsRead.{packable_short, writable-packable}
use Rattle.report.specs.Fits.{items_fit}
use Rattle.report.proofs.Multi.{fit-writable}

module _ (s : Items) where
  -- items that are packed fit, and the answer tells their bits
  pub packed-fits : (p : Packed) → Ok p ≡ packed_of s → (items_fit s ≡ true) × (p.bits ≡ length (packing (listed s)))
  unfolding items_fit packed
  packed-fits p e =
      either (items_fit s)
      (λ t.
      let both : ◌≡◌ {A = Result Packed Refusal} (Ok p) (Ok (packed (listed s))) = e ∙ packed-fit s t in
      let same : p ≡ packed (listed s) = cc in
      (t, ap (λ (x : Packed). x.bits) same))
      (λ f. absurd (refused-gives-none (sym (e ∙ packed-unfit s f))))

  -- at most 112 bits
  pub packed_short : (p : Packed) → Ok p ≡ packed_of s → p.bits ≤ longest
  packed_short p e =
      let its = listed s in
      let fit = packed-fits p e in
      subst (λ (m : ℕ). m ≤ longest) (sym fit.1) (packable_short its (writable-packable its (fit-writable s fit.0)))

  pub refused-unfit : (u : Refusal) → Err u ≡ packed_of s → items_fit s ≡ false
  unfolding items_fit
  refused-unfit u e = either (items_fit s) (λ t. absurd (refused-gives-none {a = packed (listed s)} (e ∙ packed-fit s t))) (λ f. f)

pub fit_count : (s : Items) → items_fit s ≡ true → s.count ≤ limit
unfolding items_fit
fit_count s h = well_placed-count s (and_left (well_placed s) (writable (listed s)) h)

-- the tests of a multi-group report, as the code joins them
pub joined_tests : (t h d v : Bool) → t ≡ true → h && d && v ≡ t && (h && (d && v))
joined_tests t h d v e = and_assoc h d v ∙ sym (ap (λ (b : Bool). b && (h && (d && v))) e)
