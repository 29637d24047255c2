-- How messages are read, which is left open: by which rules a multi-group message gives a report or tells why there is none.
use Rattle.std.specs.Prelude.{ℕ, List}
use Rattle.word.specs.declared.Head.{Head}
use Rattle.report.specs.declared.Report.{Report}
use Rattle.report.specs.declared.Unreadable.{Unreadable}
use Rattle.report.specs.declared.Unreadable.TheVariants.{Refused}
use Rattle.report.specs.Report.{single_report}
use Rattle.report.specs.Read.{Reading}
use Rattle.transmission.specs.Reading.{Rules}

-- from its head and the contents of its later groups
abbrev pub Reads : Type 0
Reads = Head → List ℕ → Reading

-- the rules of a transmission as the calls use them
abbrev pub rules : Reads → Rules Report Unreadable
rules read = record { single = single_report; multi = read; plain = Refused }
