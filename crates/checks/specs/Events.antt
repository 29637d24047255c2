-- What the catalogue and the lives say of a report (document 01, "The message table"; ISO 14819-1, clause 6.5.2).
use Rattle.std.specs.Prelude.{ℕ, ◌+◌, ◌*◌, Bool, true, false, List, ℤ, get_or}
use Rattle.report.specs.declared.Report.{Report}
use Rattle.clock.specs.Time.{expiry_of}
use Rattle.lent.specs.declared.catalogue.Kind.{Kind}
use Rattle.lent.specs.declared.catalogue.Kind.TheVariants.{Unknown, Ordinary, Cancelling, Null}
use Rattle.lent.specs.Catalogue.{entry_at, kind_of, type_of}
use Rattle.checks.specs.declared.Arrival.{Arrival}

-- an event that the catalogue knows, and an ordinary one
abbrev pub is_known : Kind → Bool
is_known Unknown = false
is_known Ordinary = true
is_known Cancelling = true
is_known Null = true

abbrev pub is_ordinary : Kind → Bool
is_ordinary Unknown = false
is_ordinary Ordinary = true
is_ordinary Cancelling = false
is_ordinary Null = false

-- the entry of its first event
abbrev pub entry_for : List ℕ → Report → ℕ
entry_for catalogue r = entry_at catalogue r.head.event

-- the kind of it
abbrev pub kind_for : List ℕ → Report → Kind
kind_for catalogue r = kind_of (entry_for catalogue r)

-- its life: the one at 8 * type + duration
abbrev pub life_for : (catalogue lives : List ℕ) → Report → ℕ
life_for catalogue lives r = get_or lives (8 * type_of (entry_for catalogue r) + r.duration) 0

-- when its record ends: by its life
abbrev pub expiry_for : (catalogue lives : List ℕ) → Arrival → ℤ → ℕ
expiry_for catalogue lives a lto = expiry_of a.minute.0 lto (life_for catalogue lives a.report)
