-- Reports as C has them (include/alertc.h, "Reports").
use Rattle.std.specs.Prelude.{ℕ, cond, eqb, leb}
use Rattle.report.specs.declared.Report.{Report}
use Rattle.report.specs.declared.Form.{Form}
use Rattle.report.specs.declared.Form.TheVariants.{Single, Multi}
use Rattle.c_values.specs.declared.reports.PlainReport.{PlainReport}

-- 0 single-group, 1 multi-group
abbrev pub form_number : Form → ℕ
form_number Single = 0
form_number Multi = 1

abbrev pub form_from : ℕ → Form
form_from n = cond (eqb n 0) Single Multi

-- a form that is neither 0 nor 1 makes a report of 29 items, which no call takes
abbrev pub count_from : ℕ → ℕ → ℕ
count_from form n = cond (leb form 1) n 29

-- a report as C has it
abbrev pub plain_of : Report → PlainReport
plain_of r = record { items = r.items; head = r.head; real = r.real; diversion = r.diversion; duration = r.duration; form = form_number r.form }

-- and back
abbrev pub report_from : PlainReport → Report
report_from p = record {
  items = record { places = p.items.places; count = count_from p.form p.items.count };
  head = p.head;
  real = p.real;
  diversion = p.diversion;
  duration = p.duration;
  form = form_from p.form;
}
