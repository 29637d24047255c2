-- The content of a report in a record.
use Prim.Native.Nat.{ℕ, ◌-◌, ◌≤◌}
use mathlib.Core.Path.{◌≡◌, refl, sym, ap, ◌∙◌}
use mathlib.Core.Bool.{Bool, true, false}
use mathlib.Core.List.{List, ◌++◌, append-nil}
use native.Mathlib.Omega.{arith}
use lib.ListN.{length, drop_of_length-le}
use Rattle.bits.proofs.Fields.{length-words}
use Rattle.content.specs.declared.item.Item.{Item}
use Rattle.content.specs.Packing.{packing, zeros, longest}
use Rattle.content.specs.Stored.{listed}
use Rattle.report.specs.declared.Report.{Report}
use Rattle.report.specs.declared.Form.{Form}
use Rattle.report.specs.declared.Form.TheVariants.{Single, Multi}
use Rattle.std.specs.Prelude.{Result, Ok, Err}
use Rattle.refusal.specs.declared.Refusal.{Refusal}
use Rattle.refusal.specs.declared.Refusal.TheVariants.{Unfit}
use Rattle.report.specs.Fits.{report_fits}
use Rattle.report.specs.Record.{bytes_of, groups_for, groups_of, pack_report, bytes_after}
use Rattle.report.proofs.Kept.{kept_short, packed-whole, unfit-kept}

pub length-bytes : (its : List Item) → length (bytes_of its) ≡ 14
unfolding bytes_of
length-bytes its = length-words 8 14 (packing its ++ zeros (longest - length (packing its)))

module _ (r : Report) (fit : report_fits r ≡ true) where
  pub groups-few : groups_of r ≤ 5
  unfolding groups_of
  groups-few = by_form r.form
    where
      by_form : (f : Form) → groups_for f (length (packing (listed r.items))) ≤ 5
      by_form Single = unfold groups_for in omega arith
      by_form Multi = unfold groups_for in omega (arith, kept_short r fit)

  module _ (out : List ℕ) (long : length out ≡ 14) where
    pub packed-bytes : bytes_after r out ≡ bytes_of (listed r.items)
    packed-bytes =
        let room : 14 ≤ length out = omega arith in
        let none : length out ≤ 14 = omega arith in
        sym (packed-whole r out fit room).1 ∙ ap (λ (d : List ℕ). bytes_of (listed r.items) ++ d) (drop_of_length-le out none) ∙ append-nil (bytes_of (listed r.items))

-- what the answer of the packer says, with room for the content
module _ (r : Report) (out : List ℕ) (long : length out ≡ 14) where
  pub groups_told : (n : ℕ) → Ok n ≡ pack_report r (length out) → (report_fits r ≡ true) × (n ≡ groups_of r)
  groups_told n e = by_fit (report_fits r) refl
    where
      by_fit : (b : Bool) → report_fits r ≡ b → (report_fits r ≡ true) × (n ≡ groups_of r)
      by_fit true f = let g : ◌≡◌ {A = Result ℕ Refusal} (Ok n) (Ok (groups_of r)) = e ∙ sym (packed-whole r out f (omega arith)).0 in (f, cc)
      by_fit false f = let g : Ok n ≡ Err Unfit = e ∙ sym (unfit-kept r out f).0 in absurd (cc)

  pub unfit_told : (x : Refusal) → Err x ≡ pack_report r (length out) → (report_fits r ≡ false) × (x ≡ Unfit) × (bytes_after r out ≡ out)
  unfit_told x e = by_fit (report_fits r) refl
    where
      by_fit : (b : Bool) → report_fits r ≡ b → (report_fits r ≡ false) × (x ≡ Unfit) × (bytes_after r out ≡ out)
      by_fit true f = let g : Err x ≡ Ok (groups_of r) = e ∙ sym (packed-whole r out f (omega arith)).0 in absurd (cc)
      by_fit false f = let g : ◌≡◌ {A = Result ℕ Refusal} (Err x) (Err Unfit) = e ∙ sym (unfit-kept r out f).0 in (f, cc, sym (unfit-kept r out f).1)
