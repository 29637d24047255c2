-- A report that a writer takes is the report of its own fields and items.
use native.Mathlib.Omega.{arith}
use mathlib.Core.Path.{◌≡◌, sym, ap, ◌∙◌}
use mathlib.Core.Bool.{true}
use mathlib.Core.List.{[]}
use lib.ListN.{length}
use lib.Dec.{eqb}
use borrow.Author.Tests.{eqb-true, ltb-true}
use Rattle.bits.proofs.Choice.{and_left, and_right}
use Rattle.content.specs.Packing.{writable}
use Rattle.content.specs.Stored.{limit, filled, listed, well_placed}
use Rattle.content.proofs.Places.{filled-listed}
use Rattle.report.specs.declared.Report.{Report}
use Rattle.report.specs.declared.Form.{Form}
use Rattle.report.specs.declared.Form.TheVariants as form
use Rattle.report.specs.Report.{duration_of, diversion_of, single_report, multi_report}
use Rattle.report.specs.InterRoad.{inter_road, items_at}
use Rattle.report.specs.Fits.{single_fits, items_fit, multi_fits, real_fits, agrees}
use Rattle.report.proofs.Multi.{items-fit, agreed}
use Rattle.report.proofs.Kept.{no_items, single-none, single-items}

-- a report whose items stand in 28 places
module _ (r : Report) (sized : length r.items.places ≡ limit) where
  items_are : items_fit r.items ≡ true → filled (listed r.items) ≡ r.items
  unfolding items_fit
  items_are f = filled-listed r.items sized (and_left (well_placed r.items) (writable (listed r.items)) f)

  pub multi_is_report : multi_fits r ≡ true → r.form ≡ form.Multi → multi_report r.head r.real (listed r.items) ≡ r
  unfolding agrees
  multi_is_report f e =
      let its = listed r.items in
      let agree = agreed r f in
      let du = sym (eqb-true r.duration (duration_of its) (and_left (eqb r.duration (duration_of its)) (eqb r.diversion (diversion_of its)) agree)) in
      let di = sym (eqb-true r.diversion (diversion_of its) (and_right (eqb r.duration (duration_of its)) (eqb r.diversion (diversion_of its)) agree)) in
      let ite = items_are (items-fit r f) in
      let fo = sym e in
      λ i. record { form = fo i; head = r.head; real = r.real; diversion = di i; duration = du i; items = ite i }

  -- a single-group report has no place for a real location
  no_real : real_fits r.form r.head r.real ≡ true → r.form ≡ form.Single → 0 ≡ r.real
  unfolding real_fits items_at inter_road
  no_real f e = let h = ltb-true r.real 1 (sym (ap (λ (x : Form). real_fits x r.head r.real) e) ∙ f) in omega arith

  pub single_is_report : real_fits r.form r.head r.real ≡ true → single_fits r ≡ true → r.form ≡ form.Single → single_report r.duration r.diversion r.head ≡ r
  single_is_report real f e =
      let none = no_items r.items (single-none r f) in
      let ite : filled [] ≡ r.items = ap filled (sym none) ∙ items_are (single-items r f) in
      let fo = sym e in
      let re = no_real real e in
      λ i. record { form = fo i; head = r.head; real = re i; diversion = r.diversion; duration = r.duration; items = ite i }
