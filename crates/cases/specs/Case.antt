-- A worked case: what the definitions of the contracts give, and what the paper says (document 01, "Worked words").
use Rattle.std.specs.Prelude.{ℕ, ◌≡◌, List, [], ◌∷◌}

-- the number of the paper's line, and what is found and expected, or a claim about every input of its kind
pub data Case : Type 1 where
  case : ℕ → {A : Type 0} → A → A → Case
  rule : ℕ → Type 0 → Case

-- every case holds
abbrev pub AllHold : List Case → Type 0
AllHold [] = Unit {0}
AllHold (case number found expected ∷ cases) = (found ≡ expected) × AllHold cases
AllHold (rule number claim ∷ cases) = claim × AllHold cases
