-- A made record gives its location as the report in its normal form does.
use Prim.Native.Nat.{ℕ}
use mathlib.Core.Path.{◌≡◌, refl, sym, ap, ap₂, subst₂, ◌∙◌}
use mathlib.Core.Bool.{Bool, true, false, cond, ◌&&◌}
use Rattle.bits.proofs.Choice.{chosen, passed_over}
use Rattle.word.specs.declared.Head.{Head}
use Rattle.location.specs.declared.Location.{Location}
use Rattle.location.specs.Flt.{is_flt, foreign}
use Rattle.location.proofs.Codes.{code_back}
use Rattle.report.specs.declared.Report.{Report}
use Rattle.report.specs.declared.Form.{Form}
use Rattle.report.specs.declared.Form.TheVariants.{Single, Multi}
use Rattle.report.specs.InterRoad.{inter_road}
use Rattle.report.specs.Fits.{report_fits}
use Rattle.record.specs.declared.Service.{Service}
use Rattle.record.specs.Locations.{location_of, at_home, head_location, real_location}
use Rattle.record.proofs.ReportLocations.{location-foreign, location_home, own_is_home}
use Rattle.record_report.specs.Normal.{own_table, brought_home, normal}
use Rattle.record_report.proofs.Reports.{report_ranges, no_real}

road_flt : (form : Form) (h : Head) → inter_road form h ≡ true → is_flt h.location ≡ true
unfolding inter_road
road_flt Single h e = cc
road_flt Multi h e = e

module _ (s : Service) (r : Report) where
  abbrev road : Bool
  road = inter_road r.form r.head

  abbrev abroad : Location
  abroad = foreign r.head.location r.real

  pub normal_is : (b : Bool) → own_table s r ≡ b → normal s r ≡ cond b (brought_home r) r
  unfolding normal
  normal_is b e = ap (λ (x : Bool). cond x (brought_home r) r) e

  -- a single-group report is its own normal form
  pub single-normal : r.form ≡ Single → normal s r ≡ r
  unfolding own_table inter_road
  single-normal e = normal_is false (ap (λ (f : Form). inter_road f r.head && at_home s abroad) e)

  -- a report that gives a location so
  abbrev Gives : Location → Report → Type 0
  Gives l x = (head_location s l ≡ x.head.location) × (real_location s l ≡ x.real)

  pub normal-gives : report_fits r ≡ true → Gives (location_of s r) (normal s r)
  unfolding head_location real_location foreign own_table
  normal-gives fit = by_road road refl
    where
      by_table : road ≡ true → (b : Bool) → at_home s abroad ≡ b → Gives (location_of s r) (normal s r)
      by_table e true f = subst₂ Gives (sym (location-foreign s r e)) (sym (normal_is true (ap₂ (λ (x y : Bool). x && y) e f))) (chosen _ _ _ f, chosen _ _ _ f)
      by_table e false f =
          let flt = code_back r.head.location (report_ranges r fit).head_in_lem.location_lt (road_flt r.form r.head e) in
          subst₂ Gives (sym (location-foreign s r e)) (sym (normal_is false (ap₂ (λ (x y : Bool). x && y) e f))) (passed_over _ _ _ f ∙ flt, passed_over _ _ _ f)

      by_road : (b : Bool) → road ≡ b → Gives (location_of s r) (normal s r)
      by_road true e = by_table e (at_home s abroad) refl
      by_road false e =
          let home = own_is_home s r in
          subst₂ Gives (sym (location_home s r e)) (sym (normal_is false (ap (λ (b : Bool). b && at_home s abroad) e))) (chosen _ _ _ home, chosen _ _ _ home ∙ sym (no_real r fit e))

  -- the head with that location
  pub same_head : report_fits r ≡ true → record { direction = r.head.direction; extent = r.head.extent; event = r.head.event; location = head_location s (location_of s r) } ≡ (normal s r).head
  same_head fit = ap at (normal-gives fit).0 ∙ by_table (own_table s r) refl
    where
      at : ℕ → Head
      at location = record { direction = r.head.direction; extent = r.head.extent; event = r.head.event; location = location }

      by_table : (b : Bool) → own_table s r ≡ b → at (normal s r).head.location ≡ (normal s r).head
      by_table true f = let n = normal_is true f in ap (λ (x : Report). at x.head.location) n ∙ sym (ap (λ (x : Report). x.head) n)
      by_table false f = let n = normal_is false f in ap (λ (x : Report). at x.head.location) n ∙ sym (ap (λ (x : Report). x.head) n)
