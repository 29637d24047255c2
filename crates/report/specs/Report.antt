-- The report of a message (document 01, "Multi-group content"; ISO 14819-1, clauses 5.3 and 5.5).
use Rattle.std.specs.Prelude.{ℕ, Bool, cond, ◌&&◌, List, [], ◌∷◌, eqb}
use Rattle.word.specs.declared.Head.{Head}
use Rattle.content.specs.declared.item.Item.{Item}
use Rattle.content.specs.Stored.{filled}
use Rattle.report.specs.declared.Report.{Report}
use Rattle.report.specs.declared.Form.TheVariants.{Single, Multi}

-- of the first item that passes a test, else 0
unfoldable pub first_where : (Item → Bool) → (Item → ℕ) → List Item → ℕ
first_where test f [] = 0
first_where test f (i ∷ its) = cond (test i) (f i) (first_where test f its)

abbrev pub is_duration : Item → Bool
is_duration i = eqb i.label 0

abbrev pub is_diversion : Item → Bool
is_diversion i = eqb i.label 1 && eqb i.value 5

-- the duration of a multi-group message: the value of its first label 0 item, else 0
abbrev pub duration_of : List Item → ℕ
duration_of its = first_where is_duration (λ i. i.value) its

-- its diversion: 1 exactly if an item is label 1 value 5
abbrev pub diversion_of : List Item → ℕ
diversion_of its = first_where is_diversion (λ i. 1) its

-- a single-group message
abbrev pub single_report : ℕ → ℕ → Head → Report
single_report duration diversion h = record { form = Single; head = h; real = 0; diversion = diversion; duration = duration; items = filled [] }

-- a multi-group message, with its real location, 0 where it has none
abbrev pub multi_report : Head → ℕ → List Item → Report
multi_report h real its = record { form = Multi; head = h; real = real; diversion = diversion_of its; duration = duration_of its; items = filled its }

-- what stands where there is no report
abbrev pub blank : Report
blank = single_report 0 0 (record { direction = 0; extent = 0; event = 0; location = 0 })
