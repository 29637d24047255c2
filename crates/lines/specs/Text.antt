-- Text put into a lent buffer.
use Rattle.std.specs.Prelude.{ℕ, ◌+◌, ◌≡◌, List, ◌++◌, length, take, drop}

-- the buffer l with the text t from cell a on; the other cells stay
unfoldable pub put : ℕ → List ℕ → List ℕ → List ℕ
put a t l = take a l ++ t ++ drop (a + length t) l

-- t was put from cell a on: e is the cell after it, and l' the buffer then
abbrev pub Put : ℕ → List ℕ → List ℕ → ℕ → List ℕ → Type 0
Put a t l e l' = (e ≡ a + length t) × (l' ≡ put a t l)
