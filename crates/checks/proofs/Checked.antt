-- What is known of a report that the checks take, and of the record that it is stored in.
use Prim.Native.Nat.{ℕ, ◌+◌, ◌*◌, ◌≤◌, ◌<◌}
use native.Mathlib.Omega.{arith}
use mathlib.Core.Path.{◌≡◌, refl}
use mathlib.Core.Bool.{Bool, true, false, ◌&&◌, ◌||◌}
use mathlib.Core.List.{List}
use lib.IntN.{ℤ}
use lib.ListN.{length}
use lib.Dec.{ltb}
use borrow.Author.Tests.{ltb-false, not-true}
use Rattle.std.specs.Prelude.{Ok}
use Rattle.refusal.proofs.Checks.{passed}
use Rattle.bits.proofs.Choice.{and_left, and_right}
use Rattle.report.specs.Fits.{report_fits}
use Rattle.clock.specs.Time.{largest, longest_life, offset_fits}
use Rattle.clock.specs.Expiry.{expiry_answer}
use Rattle.clock.proofs.Expiries.{ends_at, expiry-fits}
use Rattle.record.specs.Services.{service_fits}
use Rattle.record_report.proofs.Reports.{report_ranges}
use Rattle.lent.specs.Catalogue.{type_of}
use Rattle.lent.specs.Lent.{lent_fit}
use Rattle.lent.proofs.Lents.{lent_events, lent_lives, life_short}
use Rattle.checks.specs.declared.Arrival.{Arrival}
use Rattle.checks.specs.Events.{is_known, entry_for, kind_for, life_for, expiry_for}
use Rattle.checks.specs.Checks.{minute_unfit, asked_fit, check_answer}

-- a minute that is not refused is not below the last one, and not too large
pub minute_fits : (last minute : ℕ) → minute_unfit last minute ≡ false → (last ≤ minute) × (minute ≤ largest)
minute_fits last minute e = let n = neither (ltb minute last) (ltb largest minute) e in (ltb-false minute last n.0, ltb-false largest minute n.1)
  where
    neither : (a b : Bool) → a || b ≡ false → (a ≡ false) × (b ≡ false)
    neither true b h = (h, let z : true ≡ false = h in cc)
    neither false b h = (refl, h)

-- the tests that the checks make
module _ (t c l : List ℕ) (last : ℕ) (a : Arrival) (lto : ℤ) where
  pub record Checked : Type 0 where
    pub lent : lent_fit t c l ≡ true
    pub asked : asked_fit a.report a.service lto ≡ true
    pub minute_fit : minute_unfit last a.minute.0 ≡ false
    pub known : is_known (kind_for c a.report) ≡ true

  pub checked : check_answer t c l last a lto ≡ Ok tt → Checked
  unfolding check_answer
  checked e =
      let lent = passed _ _ _ tt e in
      let asked = passed _ _ _ tt lent.1 in
      let minute = passed _ _ _ tt asked.1 in
      let location = passed _ _ _ tt minute.1 in
      let known = passed _ _ _ tt location.1 in
      record { lent = lent.0; asked = asked.0; minute_fit = not-true (minute_unfit last a.minute.0) minute.0; known = known.0 }

  -- what they say
  pub asked_report : asked_fit a.report a.service lto ≡ true → report_fits a.report ≡ true
  unfolding asked_fit
  asked_report e = and_left (report_fits a.report) (service_fits a.service && offset_fits lto) e

  pub event_inside : lent_fit t c l ≡ true → asked_fit a.report a.service lto ≡ true → a.report.head.event < length c
  event_inside lent asked = omega (arith, (report_ranges a.report (asked_report asked)).head_in_lem.event_lt, lent_events t c l lent)

  module _ (ok : Checked) where
    pub life_inside : 8 * type_of (entry_for c a.report) + a.report.duration < length l
    life_inside = omega (arith, (report_ranges a.report (asked_report ok.asked)).duration_lt, lent_lives t c l ok.lent)

    short : life_for c l a.report ≤ longest_life
    short = life_short t c l ok.lent (8 * type_of (entry_for c a.report) + a.report.duration) life_inside

    early : a.minute.0 ≤ largest
    early = (minute_fits last a.minute.0 ok.minute_fit).1

    pub ends : (1 ≤ expiry_for c l a lto) × (expiry_for c l a lto < 0x1_0000_0000)
    ends = expiry-fits a.minute.0 lto (life_for c l a.report) short early

    -- the clock refuses nothing
    pub expiry_is : expiry_answer a.minute.0 lto (life_for c l a.report) ≡ Ok (record { 0 = expiry_for c l a lto })
    unfolding asked_fit
    expiry_is =
        let rest = and_right (report_fits a.report) (service_fits a.service && offset_fits lto) ok.asked in
        ends_at a.minute.0 lto (life_for c l a.report) short early (and_right (service_fits a.service) (offset_fits lto) rest)
