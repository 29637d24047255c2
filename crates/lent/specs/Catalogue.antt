-- The catalogue (document 01, "The message table").
use Rattle.std.specs.Prelude.{ℕ, zero, suc, ◌/◌, ◌%◌, Bool, true, false, not, ◌&&◌, ◌||◌, List, length, get_or, eqb, ltb}
use Rattle.lent.specs.declared.catalogue.Kind.{Kind}
use Rattle.lent.specs.declared.catalogue.Kind.TheVariants.{Unknown, Ordinary, Cancelling, Null}
use Rattle.lent.specs.Records.{all_of}

-- the entry of an event
abbrev pub entry_at : List ℕ → ℕ → ℕ
entry_at catalogue event = get_or catalogue event 0

-- the update class of an entry
abbrev pub class_of : ℕ → ℕ
class_of entry = entry % 64

-- the kinds by their numbers
abbrev pub kind_at : ℕ → Kind
kind_at zero = Unknown
kind_at (suc zero) = Ordinary
kind_at (suc (suc zero)) = Cancelling
kind_at (suc (suc (suc n))) = Null

-- its kind: 0 unknown, 1 ordinary, 2 cancelling, 3 null
abbrev pub kind_of : ℕ → Kind
kind_of entry = kind_at (entry / 64 % 4)

-- an ordinary and a cancelling event have a class, an unknown and a null one have none
abbrev pub classed : Kind → Bool
classed Unknown = false
classed Ordinary = true
classed Cancelling = true
classed Null = false

abbrev pub has_class : ℕ → Bool
has_class entry = classed (kind_of entry)

-- its duration type
abbrev pub type_of : ℕ → ℕ
type_of entry = entry / 256 % 2

-- no bit above the duration type, and class 0 exactly if the kind is unknown or null
unfoldable pub entry_fits : ℕ → Bool
entry_fits x = ltb x 512 && (eqb (class_of x) 0 && not (has_class x) || not (eqb (class_of x) 0) && has_class x)

-- an entry for each of the 2,048 events
unfoldable pub catalogue_fits : List ℕ → Bool
catalogue_fits c = eqb (length c) 2048 && all_of entry_fits c
