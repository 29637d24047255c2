-- The fields of a word by division.
use Prim.Native.Nat.{ℕ}
use mathlib.Core.Path.{◌≡◌}
use native.Mathlib.Nat.{div-one}
use Rattle.bits.proofs.Formats.{parts, unpack-bits, val-pack}
use Rattle.word.specs.Format.{head_format, later_format, head_fields, later_fields}

pub head_fields_parts : (n : ℕ) → head_fields n ≡ parts head_format n
unfolding head_fields
head_fields_parts n = unpack-bits head_format n

pub later_fields_parts : (n : ℕ) → later_fields n ≡ parts later_format n
unfolding later_fields
later_fields_parts n = unpack-bits later_format n

-- what the check uses of the fields that are read, and of those that are written
pub ruleset read_fields = (head_fields_parts, later_fields_parts, div-one)

pub ruleset written_fields = (val-pack)
