-- A record has the classes of the report that it was made from.
use Prim.Native.Nat.{ℕ, ◌^◌, ◌<◌}
use native.Mathlib.Omega.{arith}
use mathlib.Core.Path.{◌≡◌, refl, sym, ap, ap₂, ◌∙◌}
use mathlib.Core.Bool.{Bool, true, false, ◌&&◌, ◌||◌, and-true}
use mathlib.Core.List.{List}
use lib.ListN.{length}
use lib.Dec.{eqb}
use borrow.Author.Tests.{le-leb, eq-eqb, ne_eqb}
use Rattle.std.specs.Prelude.{Ok, is_ok}
use Rattle.bits.proofs.Choice.{and_right}
use Rattle.word.specs.declared.Head.{Head}
use Rattle.content.specs.Stored.{limit}
use Rattle.report.specs.declared.Report.{Report}
use Rattle.report.specs.Fits.{report_fits}
use Rattle.record.specs.declared.Service.{Service}
use Rattle.record.specs.Layout.{is_free, byte_at, groups_in, set_in}
use Rattle.record.specs.Classes.{set_of}
use Rattle.record.specs.WellFormed.{groups_fit}
use Rattle.record.proofs.Ranges.{groups_range}
use Rattle.record.proofs.Steps.{one_record_lem}
use Rattle.record_report.specs.declared.Kept.{Kept}
use Rattle.record_report.specs.Made.{record_of, can_make, marks_fit}
use Rattle.record_report.specs.Normal.{own_table, normal}
use Rattle.record_report.specs.Reads.{message_of}
use Rattle.record_report.proofs.MadeFields.{length_made, used_back, head_back, set_back}
use Rattle.record_report.proofs.MadeFits.{made_fits}
use Rattle.record_report.proofs.Normal.{normal_is}
use Rattle.record_report.proofs.Readings.{message_by}
use Rattle.record_report.proofs.WayBack.{reads_back}
use Rattle.lent.specs.Catalogue.{entry_at, has_class}
use Rattle.classes.specs.Events.{events_of}
use Rattle.classes.specs.Classes.{event_classes, classes_of}
use Rattle.classes.proofs.ReportSets.{set_small}
use Rattle.renewal.specs.Classes.{message_classes, classes_in, classed}
use Rattle.renewal.specs.Current.{current}
use Rattle.renewal.proofs.RecordClasses.{classed_by}

-- the normal form of a report has its events
events_normal : (s : Service) (x : Report) → events_of (normal s x) ≡ events_of x
unfolding events_of
events_normal s x = by_table (own_table s x) refl
  where
    by_table : (b : Bool) → own_table s x ≡ b → events_of (normal s x) ≡ events_of x
    by_table true e = ap events_of (normal_is s x true e)
    by_table false e = ap events_of (normal_is s x false e)

module _ (c : List ℕ) (k : Kept) (set : ℕ) (sized : length k.report.items.places ≡ limit) (can : can_make k set ≡ true) (small : set < 2 ^ 64) (early : k.expiry.0 < 0x1_0000_0000) where
  abbrev made : List ℕ
  made = record_of k set

  used : byte_at made 0 ≡ 0 → ⊥
  used z = omega (arith, used_back k set)

  made_message : message_of made ≡ Ok (normal k.service k.report)
  unfolding can_make
  made_message =
      let few = groups_range made (made_fits k set can small early) used in
      let fit : groups_fit made ≡ true = ap₂ (λ (a b : Bool). a && b) (le-leb 1 (groups_in made) few.0) (le-leb (groups_in made) 5 few.1) in
      message_by made true (one_record_lem groups_fit made (length_made k set) ∙ fit) ∙ reads_back k set sized (and_right (marks_fit k set) (report_fits k.report) can)

  pub made_classes : classes_in c made ≡ classes_of c k.report
  unfolding classes_of classes_in
  made_classes = ap (message_classes c) made_message ∙ ap (event_classes c) (events_normal k.service k.report)

  pub made_classed : classed c made ≡ has_class (entry_at c k.report.head.event)
  made_classed =
      classed_by c made false _ (ne_eqb (byte_at made 0) 0 used) refl
      ∙ ap₂ (λ (h : Head) (b : Bool). has_class (entry_at c h.event) && b) (head_back k set) (ap is_ok made_message)
      ∙ and-true (has_class (entry_at c k.report.head.event))

-- a record that is stored with the set of its report's classes
pub made_current : (c : List ℕ) (k : Kept) → length k.report.items.places ≡ limit → can_make k (set_of (classes_of c k.report)) ≡ true → k.expiry.0 < 0x1_0000_0000 → current c (record_of k (set_of (classes_of c k.report))) ≡ true
unfolding current
made_current c k sized can early =
    let set = set_of (classes_of c k.report) in
    let small = set_small c k.report in
    let same : set_in (record_of k set) ≡ set_of (classes_in c (record_of k set)) = set_back k set small ∙ sym (ap set_of (made_classes c k set sized can small early)) in
    ap₂ (λ (a b : Bool). a || b) (ne_eqb _ 0 (used c k set sized can small early)) (eq-eqb _ _ same)

-- a free record asks for none
pub free_classed : (c r : List ℕ) → is_free r ≡ true → classed c r ≡ true
free_classed c r free = classed_by c r true _ free refl

pub free_current : (c r : List ℕ) → is_free r ≡ true → current c r ≡ true
unfolding current
free_current c r free = ap (λ (b : Bool). b || eqb (set_in r) (set_of (classes_in c r))) free
