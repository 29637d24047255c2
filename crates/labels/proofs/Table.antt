-- The table by cases of the row, as the code reads it, and what holds of every row.
use Rattle.std.proofs.Common.{◌≡◌, refl, sym, ap, ◌∙◌, ℕ, ◌<◌, ◌≤◌, map, get_or, true, cond, ◌||◌, arith}
use Rattle.std.specs.Option.{unwrap_or}
use lib.Dec.{eqb, ltb, leb}
use lib.ListN.{get_or-eq_default}
use borrow.Author.Tests.{leb-true, ltb-true, ltb-false}
use Rattle.std.specs.List.{range_with_len}
use Rattle.std.proofs.lemmas.List.FromFn.{get_or-map-range_with_len}
use Rattle.bits.proofs.Choice.{either}
use Rattle.labels.specs.Telephone.{number_codes, letter_codes}
use Rattle.labels.specs.declared.rules.Edition.{Edition}
use Rattle.labels.specs.declared.rules.Edition.TheVariants.{Older, Newer}
use Rattle.labels.specs.declared.rules.Rules.{Rules}
use Rattle.labels.specs.declared.stage.Stage.TheVariants.{Labels, Numbers, Letters, Currency}
use Rattle.labels.specs.Rows.{row_count, Due, stage, by_sublabel, by_time_unit, row, label_rows, code_row, cost_rows, rows, width, due, by_value, next, stage_of, rows_of}

-- two functions that say the same of every row, computed as tables
pub at_each : {X : Type 0} (f g : ℕ → X) → map f (range_with_len 0 row_count) ≡ map g (range_with_len 0 row_count) → (r : ℕ) → r < row_count → f r ≡ g r
at_each {X} f g same r h =
    let at : (k : ℕ → X) → get_or (map k (range_with_len 0 row_count)) r (f 0) ≡ k r = λ k. get_or-map-range_with_len k 0 row_count r r (f 0) h (omega arith) in
    sym (at f) ∙ ap (λ xs. get_or xs r (f 0)) same ∙ at g

-- no value is wider than 16 bits
pub width_narrow : (r : ℕ) → r < row_count → width r ≤ 16
unfolding number_codes letter_codes label_rows code_row cost_rows rows width
width_narrow r h = leb-true (width r) 16 (at_each (λ k. leb (width k) 16) (λ k. true) refl r h)

-- the width by cases
abbrev pub width_by : ℕ → ℕ
width_by r =
    cond (ltb r 2) 3 (cond (ltb r 5) 5 (cond (ltb r 9) 8 (cond (eqb r 9) 11 (cond (ltb r 14) 16
    (cond (eqb r 15) 6 (cond (eqb r 31 || eqb r 63) 3 (cond (eqb r 64) 16 (cond (eqb r 65) 9 0))))))))

pub width_is : (r : ℕ) → width r ≡ width_by r
unfolding number_codes letter_codes label_rows code_row cost_rows rows width
width_is r =
    either (ltb r row_count)
    (λ h. at_each width width_by refl r (ltb-true r row_count h))
    (λ h.
    let past = ltb-false r row_count h in
    ap (λ x. x.width) (get_or-eq_default rows (row 0 (stage Labels)) {n = r} (omega arith)) ∙ grind arith)

-- what is due by cases: after a code its stage, but for the codes that the tables mark
abbrev pub due_by : ℕ → Due
due_by r =
    cond (eqb r 15) by_sublabel (cond (eqb r 31 || eqb r 63) by_time_unit (cond (eqb r 29) (stage Letters)
    (cond (eqb r 32 || eqb r 62) (stage Numbers) (cond (eqb r 64) (stage Currency) (cond (eqb r 65) (stage Labels) (stage (unwrap_or (stage_of r) Labels)))))))

pub due_is : (r : ℕ) → due r ≡ due_by r
unfolding number_codes letter_codes label_rows code_row cost_rows rows due
due_is r =
    either (ltb r row_count)
    (λ h. at_each due due_by refl r (ltb-true r row_count h))
    (λ h.
    let past = ltb-false r row_count h in
    ap (λ x. x.due) (get_or-eq_default rows (row 0 (stage Labels)) {n = r} (omega arith)) ∙ grind arith)

pub next_is : (r v : ℕ) → next r v ≡ by_value (due_by r) v
unfolding next
next_is r v = ap (λ d. by_value d v) (due_is r)

pub rows-within : (rules : Rules) → rows_of rules ≤ row_count
rows-within rules = by_edition rules.edition
  where
    by_edition : (e : Edition) → elim e [ Older ↦ 15 | Newer ↦ row_count ] ≤ row_count
    by_edition Older = omega arith
    by_edition Newer = omega arith

-- every edition has labels 0 to 14
pub rows-least : (rules : Rules) → 15 ≤ rows_of rules
rows-least rules = by_edition rules.edition
  where
    by_edition : (e : Edition) → 15 ≤ elim e [ Older ↦ 15 | Newer ↦ row_count ]
    by_edition Older = omega arith
    by_edition Newer = omega arith
