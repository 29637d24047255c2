-- What a take is lent (document 01, "The message table").
use Rattle.std.specs.Prelude.{ℕ, Bool, ◌&&◌, List}
use Rattle.lent.specs.Table.{table_fits}
use Rattle.lent.specs.Catalogue.{catalogue_fits}
use Rattle.lent.specs.Lives.{lives_fit}

-- the table, the catalogue and the lives are well-formed
unfoldable pub lent_fit : (t catalogue lives : List ℕ) → Bool
lent_fit t catalogue lives = table_fits t && (catalogue_fits catalogue && lives_fit lives)
