-- What the check uses of the fields of a format: in a number, and in the number that is read.
use native.Mathlib.Nat.{div-one}
use Rattle.bits.proofs.Formats.{unpack-bits, val-pack}

pub ruleset written_fields = (val-pack)

pub ruleset read_fields = (unpack-bits, div-one)
