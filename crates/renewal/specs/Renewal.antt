-- Renewing the sets of a table from a catalogue (document 02, R-5).
use Rattle.std.specs.Prelude.{ℕ, Bool, cond, ◌&&◌, List, Result, Ok}
use Rattle.refusal.specs.Checks.{must}
use Rattle.refusal.specs.declared.Refusal.{Refusal}
use Rattle.refusal.specs.declared.Refusal.TheVariants.{Malformed}
use Rattle.record.specs.Layout.{is_free, with_set}
use Rattle.record.specs.Classes.{set_of}
use Rattle.lent.specs.Table.{table_fits}
use Rattle.lent.specs.Catalogue.{catalogue_fits}
use Rattle.table.specs.Records.{over}
use Rattle.table.specs.Effect.{used_in}
use Rattle.renewal.specs.Classes.{classes_in, all_classed}

-- a used record with the set that its events and the catalogue give; a free one as it is
unfoldable pub renewed : (catalogue r : List ℕ) → List ℕ
renewed catalogue r = cond (is_free r) r (with_set (set_of (classes_in catalogue r)) r)

-- what is not refused: a well-formed table and catalogue, and used records whose content reads as items and whose first event has a class
unfoldable pub renew_fits : (t catalogue : List ℕ) → Bool
renew_fits t catalogue = table_fits t && (catalogue_fits catalogue && all_classed catalogue t)

-- the answer, and the table afterwards: every record renewed, or a refusal, which changes nothing
unfoldable pub renew_answer : (t catalogue : List ℕ) → Result ℕ Refusal
renew_answer t catalogue = must (renew_fits t catalogue) Malformed (Ok (used_in t))

unfoldable pub renew_table : (t catalogue : List ℕ) → List ℕ
renew_table t catalogue = cond (renew_fits t catalogue) (over (renewed catalogue) t) t
