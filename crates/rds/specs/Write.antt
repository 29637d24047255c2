-- The eight bytes of a type 8A group in a lent buffer (document 01, "RDS").
use Rattle.std.specs.Prelude.{ℕ, ◌&&◌, cond, List, ◌++◌, length, drop, leb, ⊤, Result, Ok}
use Rattle.refusal.specs.declared.Refusal.{Refusal}
use Rattle.refusal.specs.declared.Refusal.TheVariants.{Unfit, SmallBuffer}
use Rattle.refusal.specs.Checks.{must}
use Rattle.bits.specs.Fields.{words, pack, fits}
use Rattle.rds.specs.declared.Group.{Group}
use Rattle.rds.specs.Format.{group_length, group_format, group_values}

-- refusal 9 for a field or word out of its range, then 15 for too small a buffer
unfoldable pub write_group : Group → ℕ → Result ⊤ Refusal
write_group g room = must (fits group_format (group_values g)) Unfit (must (leb group_length room) SmallBuffer (Ok tt))

-- the bytes of the group
unfoldable pub group_bytes : Group → List ℕ
group_bytes g = words 8 group_length (pack group_format (group_values g))

-- the buffer afterwards: the first eight cells hold the group and later cells stay; a refusal leaves it
unfoldable pub buffer_after : Group → List ℕ → List ℕ
buffer_after g out = cond (fits group_format (group_values g) && leb group_length (length out)) (group_bytes g ++ drop group_length out) out
