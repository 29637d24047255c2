-- The system word of given fields, or refusal 9 where one is out of its range (document 01, "System words").
use Rattle.std.specs.Prelude.{ℕ, cond, List, [], ◌∷◌, Result, Ok, Err}
use Rattle.bits.specs.Bits.{val}
use Rattle.bits.specs.Fields.{pack, fits}
use Rattle.refusal.specs.declared.Refusal.{Refusal}
use Rattle.refusal.specs.declared.Refusal.TheVariants.{Unfit}
use Rattle.system.specs.declared.System.{System}
use Rattle.system.specs.declared.System.TheVariants.{Table, Service}
use Rattle.system.specs.Format.{table_format, service_format}

-- variant 0, its reserved bits 0
abbrev pub table_values : (ltn afi mode i n r u : ℕ) → List ℕ
table_values ltn afi mode i n r u = 0 ∷ 0 ∷ ltn ∷ afi ∷ mode ∷ i ∷ n ∷ r ∷ u ∷ []

-- variant 1
abbrev pub service_values : (gap sid ta tw td : ℕ) → List ℕ
service_values gap sid ta tw td = 1 ∷ gap ∷ sid ∷ ta ∷ tw ∷ td ∷ []

-- the word of these values in this format
abbrev pub word_of : List ℕ → List ℕ → Result ℕ Refusal
word_of ws vs = cond (fits ws vs) (Ok (val (pack ws vs))) (Err Unfit)

unfoldable pub written : System → Result ℕ Refusal
written (Table ltn afi mode i n r u) = word_of table_format (table_values ltn afi mode i n r u)
written (Service gap sid ta tw td) = word_of service_format (service_values gap sid ta tw td)
