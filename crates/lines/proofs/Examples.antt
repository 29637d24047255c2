-- Numbers and the worked lines of document 01, computed.
use mathlib.Core.Path.{◌≡◌, refl}
use mathlib.Core.List.{[], ◌∷◌}
use Rattle.content.specs.Stored.{filled}
use Rattle.refusal.specs.declared.Refusal.TheVariants.{WrongLength, CutShort, Label15}
use Rattle.report.specs.declared.Unreadable.TheVariants.{Refused, Broken}
use Rattle.report.specs.Report.{single_report}
use Rattle.lines.specs.Decimal.{spelled, decimal}
use Rattle.lines.specs.Line.{fields, line, report_line, marked, refusal_line}

-- 0, 10 and the largest location
pub zero_is : decimal 0 ≡ 48 ∷ []
unfolding decimal spelled
zero_is = refl

pub ten_is : decimal 10 ≡ 49 ∷ 48 ∷ []
unfolding decimal spelled
ten_is = refl

pub largest_is : decimal 65535 ≡ 54 ∷ 53 ∷ 53 ∷ 51 ∷ 53 ∷ []
unfolding decimal spelled
largest_is = refl

-- `1 S 101 12345 1 2 0 3 0`
pub a_report :
    report_line 1 (single_report 3 0 (record { direction = 1; extent = 2; event = 101; location = 12345 }))
    ≡ 49 ∷ 32 ∷ 83 ∷ 32 ∷ 49 ∷ 48 ∷ 49 ∷ 32 ∷ 49 ∷ 50 ∷ 51 ∷ 52 ∷ 53 ∷ 32 ∷ 49 ∷ 32 ∷ 50 ∷ 32 ∷ 48 ∷ 32 ∷ 51 ∷ 32 ∷ 48 ∷ 10 ∷ []
unfolding filled decimal spelled fields line
a_report = refl

-- `! 3 1`
pub a_refusal : refusal_line 3 (Refused WrongLength) ≡ 33 ∷ 32 ∷ 51 ∷ 32 ∷ 49 ∷ 10 ∷ []
unfolding decimal spelled fields marked refusal_line
a_refusal = refl

-- `! 3 7 24` and `! 3 8 0`
pub broken_content : refusal_line 3 (Broken CutShort 24) ≡ 33 ∷ 32 ∷ 51 ∷ 32 ∷ 55 ∷ 32 ∷ 50 ∷ 52 ∷ 10 ∷ []
unfolding decimal spelled fields marked refusal_line
broken_content = refl

pub broken_at_once : refusal_line 3 (Broken Label15 0) ≡ 33 ∷ 32 ∷ 51 ∷ 32 ∷ 56 ∷ 32 ∷ 48 ∷ 10 ∷ []
unfolding decimal spelled fields marked refusal_line
broken_at_once = refl
