-- Reports go to C and back unchanged, either way round, and a form that is none is refused.
use Prim.Native.Nat.{ℕ, zero, suc, ◌≤◌, ◌<◌}
use mathlib.Core.Path.{◌≡◌, refl, ap₂}
use mathlib.Core.Bool.{false, and-false}
use native.Mathlib.Omega.{arith}
use borrow.Author.Tests.{lt-leb, le-leb}
use Rattle.bits.proofs.Choice.{chosen, passed_over}
use Rattle.bits.specs.Fields.{fits}
use Rattle.word.specs.Format.{head_format}
use Rattle.word.specs.Compose.{single_values}
use Rattle.content.specs.Stored.{well_placed}
use Rattle.report.specs.declared.Report.{Report}
use Rattle.report.specs.declared.Form.{Form}
use Rattle.report.specs.declared.Form.TheVariants.{Single, Multi}
use Rattle.report.specs.Fits.{single_fits, multi_fits, items_fit, fits_by, real_fits, report_fits}
use Rattle.c_values.specs.declared.reports.PlainReport.{PlainReport}
use Rattle.c_values.specs.Reports.{plain_of, form_from, form_number, count_from, report_from}

form_back : (f : Form) → form_from (form_number f) ≡ f
form_back Single = refl
form_back Multi = refl

count_back : (f : Form) (n : ℕ) → count_from (form_number f) n ≡ n
count_back Single n = refl
count_back Multi n = refl

-- every report
pub report_back : (r : Report) → report_from (plain_of r) ≡ r
report_back r =
    ap₂
    (λ (f : Form) (n : ℕ).
    let x : Report = record { form = f; head = r.head; real = r.real; diversion = r.diversion; duration = r.duration; items = record { count = n; places = r.items.places } } in
    x)
    (form_back r.form)
    (count_back r.form r.items.count)

-- 29 items
too_many : (r : Report) (f : Form) → r.items.count ≡ 29 → fits_by f r ≡ false
unfolding fits_by single_fits multi_fits items_fit well_placed
too_many r Single h = rw h (and-false (fits head_format (single_values r.duration r.diversion r.head)))
too_many r Multi h = rw h

-- a form that is neither 0 nor 1 is refused
pub other_form : (p : PlainReport) → 1 < p.form → report_fits (report_from p) ≡ false
unfolding report_fits
other_form p h = rw (too_many (report_from p) (form_from p.form) (passed_over _ _ _ (lt-leb _ _ h))) (and-false (real_fits (form_from p.form) p.head p.real))

form_again : (n : ℕ) → n ≤ 1 → form_number (form_from n) ≡ n
form_again zero h = refl
form_again (suc zero) h = refl
form_again (suc (suc n)) h = absurd (omega arith)

-- and C's reports of these two forms
pub plain_back : (p : PlainReport) → p.form ≤ 1 → plain_of (report_from p) ≡ p
plain_back p h =
    ap₂
    (λ (f n : ℕ).
    let x : PlainReport = record { form = f; head = p.head; real = p.real; diversion = p.diversion; duration = p.duration; items = record { count = n; places = p.items.places } } in
    x)
    (form_again p.form h)
    (chosen _ _ _ (le-leb _ _ h))
