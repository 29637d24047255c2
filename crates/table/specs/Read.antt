-- One record of the table (document 01, "The message table").
use Rattle.std.specs.Prelude.{ℕ, ◌/◌, cond, List, length, get_or, leb, Option, Result, Err}
use Rattle.refusal.specs.declared.Refusal.TheVariants.{Unfit, Malformed}
use Rattle.report.specs.declared.Unreadable.{Unreadable}
use Rattle.report.specs.declared.Unreadable.TheVariants.{Refused}
use Rattle.record.specs.Layout.{record_size, free_record}
use Rattle.record_report.specs.declared.Kept.{Kept}
use Rattle.record_report.specs.Reads.{reading_in}
use Rattle.lent.specs.Records.{records}
use Rattle.lent.specs.Table.{table_fits}

unfoldable pub record_at : List ℕ → ℕ → Result (Option Kept) Unreadable
record_at t i =
    cond (table_fits t)
    (cond (leb (length t / record_size) i) (Err (Refused Unfit)) (reading_in (get_or (records t) i free_record)))
    (Err (Refused Malformed))
