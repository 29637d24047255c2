-- The lives (document 01, "The message table"; ISO 14819-1, clause 6.5.2).
use Rattle.std.specs.Prelude.{ℕ, Bool, ◌&&◌, List, length, eqb, leb}
use Rattle.clock.specs.Time.{longest_life}
use Rattle.lent.specs.Records.{all_of}

-- 16 lives, none too long
unfoldable pub lives_fit : List ℕ → Bool
lives_fit l = eqb (length l) 16 && all_of (λ x. leb x longest_life) l
