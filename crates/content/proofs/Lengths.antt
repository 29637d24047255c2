-- The lengths of content, and the room that the fewest groups give.
use Prim.Native.Nat.{ℕ, zero, suc, ◌+◌, ◌-◌, ◌*◌, ◌/◌, ◌≤◌, ◌<◌, max}
use native.Mathlib.Omega.{arith}
use mathlib.Core.Path.{◌≡◌, refl, sym, ap, ◌∙◌}
use mathlib.Core.Bool.{Bool, true, false}
use mathlib.Core.List.{List}
use lib.ListN.{length, take}
use lib.Seq.{length-take-le, take_all}
use lib.Dec.{eqb, leb}
use borrow.Author.Tests.{eqb-true, leb-true, leb-false, le-leb, lt-leb}
use Rattle.std.specs.Prelude.{Err}
use Rattle.bits.proofs.Choice.{either}
use Rattle.content.specs.Items.{items}
use Rattle.content.specs.Content.{content_length, content}
use Rattle.content.specs.Packing.{longest, group_bits, room}
use Rattle.content.specs.declared.read.Unread.TheVariants.{TooLong}

pub content-items : (l : List Bool) → length l ≤ longest → content l ≡ items l
unfolding content
content-items l h = rw (le-leb (length l) longest h, content)

pub content-refused : (l : List Bool) → longest < length l → content l ≡ Err TooLong
unfolding content
content-refused l h = rw (lt-leb (length l) longest h, content)

content_length-groups : (k : ℕ) → 0 < k → k ≤ 4 → content_length (group_bits * k) ≡ true
unfolding content_length
content_length-groups zero h g = absurd (omega arith)
content_length-groups (suc zero) h g = refl
content_length-groups (suc (suc zero)) h g = refl
content_length-groups (suc (suc (suc zero))) h g = refl
content_length-groups (suc (suc (suc (suc zero)))) h g = refl
content_length-groups (suc (suc (suc (suc (suc k))))) h g = absurd (omega arith)

-- a content length is that of one to four later groups
pub groups_of : (m : ℕ) → content_length m ≡ true → (k : ℕ) × (m ≡ group_bits * k) × (k ≤ 4) × (0 < k)
unfolding content_length
groups_of m c =
    either (eqb m 28)
    (λ e. (1, eqb-true m 28 e, omega arith, omega arith))
    (λ f. either (eqb m 56)
    (λ e. (2, eqb-true m 56 e, omega arith, omega arith))
    (λ g. either (eqb m 84)
    (λ e. (3, eqb-true m 84 e, omega arith, omega arith))
    (λ k. (4, eqb-true m 112 (rw (f, g, k) at c), omega arith, omega arith))))

pub content_length_le : (m : ℕ) → content_length m ≡ true → m ≤ longest
content_length_le m c = let g = groups_of m c in omega arith

-- 128 bits are cut to a content length exactly if it is one
pub content_length-take : (n : ℕ) (l : List Bool) → length l ≡ 128 → content_length (length (take n l)) ≡ content_length n
content_length-take n l e =
    either (leb n 128)
    (λ h. ap content_length (length-take-le n l (let k = leb-true n 128 h in omega arith)))
    (λ h.
    let k = leb-false n 128 h in
    let beyond : content_length n ≡ false = either (content_length n) (λ c. absurd (let g = content_length_le n c in omega arith)) (λ f. f) in
    ap content_length (ap length (take_all n l (omega arith)) ∙ e) ∙ not_128 ∙ sym beyond)
  where
    not_128 : content_length 128 ≡ false
    not_128 = unfold content_length in refl

-- the fewest groups have room for n bits, give a content length, and no content length with room gives less
pub room_enough : (n : ℕ) → n ≤ room n
room_enough n = omega arith

pub room-length : (n : ℕ) → n ≤ longest → content_length (room n) ≡ true
room-length n h = content_length-groups (1 + max 1 ((n + 27) / group_bits) - 1) (omega arith) (omega arith)

pub room_fewest : (n m : ℕ) → content_length m ≡ true → n ≤ m → room n ≤ m
room_fewest n m c h = let g = groups_of m c in omega arith
