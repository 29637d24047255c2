-- The ranges of a service (document 01, "The message table").
use Rattle.std.specs.Prelude.{Bool, ◌&&◌, leb}
use Rattle.record.specs.declared.Service.{Service}

abbrev pub service_fits : Service → Bool
service_fits s = leb s.country 15 && (leb s.ltn 63 && leb s.sid 63)
