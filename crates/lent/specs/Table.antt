-- The tables that a call takes (document 01, "The message table").
use Rattle.std.specs.Prelude.{ℕ, ◌*◌, ◌%◌, Bool, ◌&&◌, List, length, eqb, leb}
use Rattle.record.specs.Layout.{record_size}
use Rattle.record.specs.WellFormed.{well_formed}
use Rattle.lent.specs.Records.{records, all_of}

-- 1 to 1,024 records
unfoldable pub sized : List ℕ → Bool
sized t = leb record_size (length t) && (leb (length t) (1024 * record_size) && eqb (length t % record_size) 0)

-- that many records, each well-formed
unfoldable pub table_fits : List ℕ → Bool
table_fits t = sized t && all_of well_formed (records t)
