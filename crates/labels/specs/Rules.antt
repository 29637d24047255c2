-- The two editions as rules of a product (document 02, R-9).
use Rattle.labels.specs.declared.rules.Edition.TheVariants.{Older, Newer}
use Rattle.labels.specs.declared.rules.Rules.{Rules}

abbrev pub older : Rules
older = record { edition = Older }

-- what a product has that asks for nothing else
abbrev pub newer : Rules
newer = record { edition = Newer }
