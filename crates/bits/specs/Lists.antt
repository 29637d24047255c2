-- Lists one after the other.
use Rattle.std.specs.Prelude.{List, [], ◌∷◌, ◌++◌}

-- the elements of all of them, in order
unfoldable pub joined : {A : Type 0} → List (List A) → List A
joined [] = []
joined (l ∷ ls) = l ++ joined ls
