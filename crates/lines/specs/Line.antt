-- The lines of a listing (document 01, "The listing program").
use Rattle.std.specs.Prelude.{ℕ, List, [], ◌∷◌, ◌++◌}
use Rattle.report.specs.declared.Report.{Report}
use Rattle.refusal.specs.Number.{number}
use Rattle.report.specs.declared.Unreadable.{Unreadable}
use Rattle.report.specs.declared.Unreadable.TheVariants.{Refused, Broken}
use Rattle.report.specs.declared.Form.{Form}
use Rattle.report.specs.declared.Form.TheVariants.{Single, Multi}
use Rattle.lines.specs.Decimal.{decimal}

abbrev pub space : ℕ
space = 32

abbrev pub newline : ℕ
newline = 10

-- `no form event location dir extent div dur items`
unfoldable pub header : List ℕ
header = 110 ∷ 111 ∷ 32 ∷ 102 ∷ 111 ∷ 114 ∷ 109 ∷ 32 ∷ 101 ∷ 118 ∷ 101 ∷ 110 ∷ 116 ∷ 32 ∷ 108 ∷ 111 ∷ 99 ∷ 97 ∷ 116 ∷ 105 ∷ 111 ∷ 110 ∷ 32 ∷ 100 ∷ 105 ∷ 114 ∷ 32 ∷ 101 ∷ 120 ∷ 116 ∷ 101 ∷ 110 ∷ 116 ∷ 32 ∷ 100 ∷ 105 ∷ 118 ∷ 32 ∷ 100 ∷ 117 ∷ 114 ∷ 32 ∷ 105 ∷ 116 ∷ 101 ∷ 109 ∷ 115 ∷ 10 ∷ []

-- numbers, each after a space
unfoldable pub fields : List ℕ → List ℕ
fields [] = []
fields (v ∷ vs) = (space ∷ decimal v) ++ fields vs

-- `S` or `M`
abbrev pub letter : Form → ℕ
letter Single = 83
letter Multi = 77

abbrev pub form_text : Form → List ℕ
form_text f = space ∷ letter f ∷ []

-- the fields that the header names after the form; items is a count
abbrev pub values : Report → List ℕ
values r =
    r.head.event ∷ r.head.location ∷ r.head.direction ∷ r.head.extent ∷ r.diversion ∷ r.duration ∷ r.items.count ∷ []

-- a number, a form, and fields
unfoldable pub line : ℕ → Form → List ℕ → List ℕ
line number form vs = decimal number ++ form_text form ++ fields vs ++ newline ∷ []

-- a report with its number
abbrev pub report_line : ℕ → Report → List ℕ
report_line number r = line number r.form (values r)

-- `!` and numbers after it
unfoldable pub marked : List ℕ → List ℕ
marked vs = (33 ∷ []) ++ fields vs ++ newline ∷ []

-- `! R N`: the frame's number, the refusal's; and where content breaks `! R N P` with the place (document 02, R-8)
unfoldable pub refusal_line : ℕ → Unreadable → List ℕ
refusal_line frame (Refused refusal) = marked (frame ∷ number refusal ∷ [])
refusal_line frame (Broken refusal place) = marked (frame ∷ number refusal ∷ place ∷ [])

-- a line of numbers of 64 bits has at most so many characters, and a number after a space
abbrev pub room : ℕ
room = 170

abbrev pub field_room : ℕ
field_room = 21
