-- A report that can be written, by its form.
use Prim.Native.Nat.{ℕ}
use mathlib.Core.Path.{◌≡◌, sym, ap, ◌∙◌}
use mathlib.Core.Bool.{true, false}
use mathlib.Core.List.{List}
use lib.ListN.{length}
use Rattle.bits.proofs.Choice.{and_left, and_right, chosen, passed_over}
use Rattle.word.specs.Compose.{is_index}
use Rattle.report.specs.declared.Report.{Report}
use Rattle.report.specs.declared.Form.{Form}
use Rattle.report.specs.declared.Form.TheVariants.{Single, Multi}
use Rattle.std.specs.Prelude.{Err}
use Rattle.refusal.specs.declared.Refusal.TheVariants.{Unfit}
use Rattle.report.specs.Fits.{single_fits, multi_fits, fits_by, real_fits, report_fits}
use Rattle.report_write.specs.Write.{index_fits, single_words, multi_words, words_by, words_of, can_write, answer_for, buffer_after, write_report, words_after}

module _ (ci : ℕ) (r : Report) where
  module _ (ok : can_write ci r ≡ true) where
    report-fits : report_fits r ≡ true
    unfolding can_write
    report-fits = and_left (report_fits r) (index_fits r.form ci) ok

    pub real_fits_lem : real_fits r.form r.head r.real ≡ true
    unfolding report_fits
    real_fits_lem = and_left (real_fits r.form r.head r.real) (fits_by r.form r) report-fits

    form_fits : fits_by r.form r ≡ true
    unfolding report_fits
    form_fits = and_right (real_fits r.form r.head r.real) (fits_by r.form r) report-fits

    pub single-fits : r.form ≡ Single → single_fits r ≡ true
    unfolding fits_by
    single-fits e = sym (ap (λ (f : Form). fits_by f r) e) ∙ form_fits

    pub multi-fits : r.form ≡ Multi → multi_fits r ≡ true
    unfolding fits_by
    multi-fits e = sym (ap (λ (f : Form). fits_by f r) e) ∙ form_fits

    pub multi_index : r.form ≡ Multi → is_index ci ≡ true
    unfolding can_write index_fits
    multi_index e = sym (ap (λ (f : Form). index_fits f ci) e) ∙ and_right (report_fits r) (index_fits r.form ci) ok

    written : (ws out : List ℕ) → words_of ci r ≡ ws → (answer_for ws (length out) ≡ write_report ci r (length out)) × (buffer_after ws out ≡ words_after ci r out)
    unfolding write_report words_after
    written ws out e =
        (ap (λ (l : List ℕ). answer_for l (length out)) (sym e) ∙ sym (chosen _ _ _ ok), ap (λ (l : List ℕ). buffer_after l out) (sym e) ∙ sym (chosen _ _ _ ok))

    pub single-written : (out : List ℕ) → r.form ≡ Single → (answer_for (single_words r) (length out) ≡ write_report ci r (length out)) × (buffer_after (single_words r) out ≡ words_after ci r out)
    unfolding words_of words_by
    single-written out e = written (single_words r) out (ap (λ (f : Form). words_by f ci r) e)

    pub multi-written : (out : List ℕ) → r.form ≡ Multi → (answer_for (multi_words ci r) (length out) ≡ write_report ci r (length out)) × (buffer_after (multi_words ci r) out ≡ words_after ci r out)
    unfolding words_of words_by
    multi-written out e = written (multi_words ci r) out (ap (λ (f : Form). words_by f ci r) e)

  pub not_written : can_write ci r ≡ false → (out : List ℕ) → (Err Unfit ≡ write_report ci r (length out)) × (out ≡ words_after ci r out)
  unfolding write_report words_after
  not_written no_way out = (sym (passed_over _ _ _ no_way), sym (passed_over _ _ _ no_way))
