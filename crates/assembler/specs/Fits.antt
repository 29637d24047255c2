-- The code's test of a state (document 01, "The assembler"). That it holds exactly of the states that some list of calls gives is
-- `reached` in proofs/Reached.antt.
use Rattle.std.specs.Prelude.{ℕ, ◌^◌, Bool, true, cond, ◌&&◌, ltb, eqb}
use Rattle.bits.specs.Fields.{fits as in_range}
use Rattle.word.specs.Format.{head_part}
use Rattle.word.specs.Compose.{head_values, is_index}
use Rattle.transmission.specs.Reachable.{count_fits}
use Rattle.assembler.specs.declared.Partial.{Partial}
use Rattle.assembler.specs.declared.Assembler.{Assembler}
use Rattle.assembler.specs.declared.Assembler.TheVariants.{Empty, Started}

-- a content at a position in use has 28 bits, and one at another position is zero
unfoldable pub content_fits : ℕ → ℕ → ℕ → Bool
content_fits count position content = cond (ltb position count) (ltb content (2 ^ 28)) (eqb content 0)

-- an open message: a continuity index of 1 to 6, a head in range, later groups taken and still to come at most four, and the contents
unfoldable pub partial_fits : Partial → Bool
partial_fits p =
    is_index p.ci
    && (in_range head_part (head_values p.head)
    && (count_fits p.count p.gsi
    && (content_fits p.count 0 p.first
    && (content_fits p.count 1 p.second && content_fits p.count 2 p.third))))

unfoldable pub fits : Assembler → Bool
fits Empty = true
fits (Started p) = partial_fits p
