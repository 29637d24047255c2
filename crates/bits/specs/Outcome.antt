-- What a reading gives is a value, or a refusal with what it carries.
use Rattle.std.specs.Prelude.{Result, Ok, Err}

-- a function of the value; a refusal stays as it is
abbrev pub mapped : {A B N : Type 0} → (A → B) → Result A N → Result B N
mapped f (Ok a) = Ok (f a)
mapped f (Err n) = Err n

-- a function of what a refusal carries; a value stays as it is
abbrev pub refused_as : {A N M : Type 0} → (N → M) → Result A N → Result A M
refused_as f (Ok a) = Ok a
refused_as f (Err n) = Err (f n)
