-- What eight bytes say as a type 8A group (document 01, "RDS").
use Rattle.std.specs.Prelude.{ℕ, ◌&&◌, List, length, eqb, Result, Ok, Err}
use Rattle.refusal.specs.declared.Refusal.{Refusal}
use Rattle.refusal.specs.declared.Refusal.TheVariants.{WrongLength, OtherKind}
use Rattle.refusal.specs.Checks.{must}
use Rattle.bits.specs.Fields.{flat, unpack}
use Rattle.rds.specs.declared.Group.{Group}
use Rattle.rds.specs.Format.{group_length, group_format, pi_in, type_in, version_in, tp_in, pty_in, word_in, empty_group}

-- PI, TP, PTY and the word, from the group's fields
abbrev pub group_of : List ℕ → Group
group_of f = record { pi = pi_in f; tp = tp_in f; pty = pty_in f; word = word_in f }

-- by the group's fields: refusal 2 for another type or version
unfoldable pub group_by : List ℕ → Result Group Refusal
group_by f = must (eqb (type_in f) 8 && eqb (version_in f) 0) OtherKind (Ok (group_of f))

-- refusal 1 for another length
unfoldable pub read_group : List ℕ → Result Group Refusal
read_group s = must (eqb (length s) group_length) WrongLength (group_by (unpack group_format (flat 8 s)))

-- the group that the answer tells, empty on a refusal
abbrev pub group_in : Result Group Refusal → Group
group_in (Ok g) = g
group_in (Err refusal) = empty_group
