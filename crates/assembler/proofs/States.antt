-- The code's states that pass its test are those that the definitions reach, each kept in one way.
use Prim.Native.Nat.{ℕ, zero, suc, ◌+◌, ◌≤◌, ◌^◌}
use native.Mathlib.Omega.{arith}
use mathlib.Core.Path.{◌≡◌, refl, ap}
use mathlib.Core.Bool.{true, ◌&&◌}
use mathlib.Core.List.{List, [], ◌∷◌}
use lib.Dec.{leb, ltb, eqb}
use lib.ListN.{length, take}
use borrow.Author.Tests.{eqb-true, leb-true}
use Rattle.bits.specs.Fields.{fits as in_range}
use Rattle.bits.proofs.Choice.{and_left, and_right}
use Rattle.word.specs.declared.Head.{Head}
use Rattle.word.specs.Format.{head_part}
use Rattle.word.specs.Compose.{head_values, is_index}
use Rattle.transmission.specs.State.{State, empty, started}
use Rattle.transmission.specs.Reachable.{count_fits}
use Rattle.transmission.proofs.Reachable.{contents_fit, reachable}
use Rattle.transmission.proofs.Kept.{Fit, fit}
use Rattle.assembler.specs.declared.Partial.{Partial}
use Rattle.assembler.specs.declared.Assembler.{Assembler}
use Rattle.assembler.specs.declared.Assembler.TheVariants.{Empty, Started}
use Rattle.assembler.specs.State.{contents_of, state_of, partial_of, assembler_of}
use Rattle.assembler.specs.Fits.{content_fits, partial_fits, fits}

-- three contents of which so many are in use
pub record Contents (count a b c : ℕ) : Type 0 where
  pub first : content_fits count 0 a ≡ true
  pub second : content_fits count 1 b ≡ true
  pub third : content_fits count 2 c ≡ true

-- what the test of an open message says
pub record Open (p : Partial) : Type 0 where
  pub index : is_index p.ci ≡ true
  pub ranges : in_range head_part (head_values p.head) ≡ true
  pub count : count_fits p.count p.gsi ≡ true
  pub contents : Contents p.count p.first p.second p.third

pub opened : (p : Partial) → partial_fits p ≡ true → Open p
unfolding partial_fits
opened p e =
    let first = content_fits p.count 0 p.first in
    let second = content_fits p.count 1 p.second in
    let third = content_fits p.count 2 p.third in
    let count = count_fits p.count p.gsi in
    let ranges = in_range head_part (head_values p.head) in
    let e1 = and_right (is_index p.ci) (ranges && (count && (first && (second && third)))) e in
    let e2 = and_right ranges (count && (first && (second && third))) e1 in
    let e3 = and_right count (first && (second && third)) e2 in
    let e4 = and_right first (second && third) e3 in
    record {
      index = and_left (is_index p.ci) _ e;
      ranges = and_left ranges _ e1;
      count = and_left count _ e2;
      contents = record { first = and_left first _ e3; second = and_left second _ e4; third = and_right second third e4 };
    }

-- the test of the count, by whether there is a later group
pub none_fit : (count gsi : ℕ) → count ≡ 0 → count_fits count gsi ≡ eqb gsi 0
unfolding count_fits
none_fit count gsi e = rw e

pub some_fit : (count gsi : ℕ) → (count ≡ 0 → ⊥) → count_fits count gsi ≡ leb 1 gsi && leb (count + gsi) 4
unfolding count_fits
some_fit zero gsi h = absurd (h refl)
some_fit (suc k) gsi h = refl

-- a message that is not complete has at most three later groups
pub few : (count gsi : ℕ) → count_fits count gsi ≡ true → count ≤ 3
unfolding count_fits
few zero gsi e = omega arith
few (suc k) gsi e =
    let more = leb-true 1 gsi (and_left (leb 1 gsi) (leb (suc k + gsi) 4) e) in
    let all = leb-true (suc k + gsi) 4 (and_right (leb 1 gsi) (leb (suc k + gsi) 4) e) in
    omega arith

abbrev in_order : ℕ → Head → ℕ → ℕ → ℕ → ℕ → ℕ → Partial
in_order ci head gsi count a b c = record { ci = ci; head = head; gsi = gsi; count = count; first = a; second = b; third = c }

-- the open message comes back from its contents
same_contents : (ci : ℕ) (head : Head) (gsi count a b c : ℕ) → count ≤ 3 → Contents count a b c
    → partial_of ci head gsi (take count (a ∷ b ∷ c ∷ [])) ≡ in_order ci head gsi count a b c
unfolding partial_of content_fits
same_contents ci head gsi zero a b c h p = rw (eqb-true a 0 p.first, eqb-true b 0 p.second, eqb-true c 0 p.third)
same_contents ci head gsi (suc zero) a b c h p = rw (eqb-true b 0 p.second, eqb-true c 0 p.third)
same_contents ci head gsi (suc (suc zero)) a b c h p = rw (eqb-true c 0 p.third)
same_contents ci head gsi (suc (suc (suc zero))) a b c h p = refl
same_contents ci head gsi (suc (suc (suc (suc k)))) a b c h p = absurd (omega arith)

-- its contents have 28 bits each, and are as many as it counts
contents_fit_lem : (count a b c : ℕ) → count ≤ 3 → Contents count a b c → contents_fit (take count (a ∷ b ∷ c ∷ [])) ≡ true
unfolding contents_fit content_fits
contents_fit_lem zero a b c h p = refl
contents_fit_lem (suc zero) a b c h p = rw p.first
contents_fit_lem (suc (suc zero)) a b c h p = rw (p.first, p.second)
contents_fit_lem (suc (suc (suc zero))) a b c h p = rw (p.first, p.second, p.third)
contents_fit_lem (suc (suc (suc (suc k)))) a b c h p = absurd (omega arith)

contents_count : (count a b c : ℕ) → count ≤ 3 → length (take count (a ∷ b ∷ c ∷ [])) ≡ count
contents_count zero a b c h = refl
contents_count (suc zero) a b c h = refl
contents_count (suc (suc zero)) a b c h = refl
contents_count (suc (suc (suc zero))) a b c h = refl
contents_count (suc (suc (suc (suc k)))) a b c h = absurd (omega arith)

pub assembler_state : (a : Assembler) → fits a ≡ true → assembler_of (state_of a) ≡ a
unfolding assembler_of state_of contents_of fits
assembler_state Empty e = refl
assembler_state (Started p) e =
    let o = opened p e in
    ap Started (same_contents p.ci p.head p.gsi p.count p.first p.second p.third (few p.count p.gsi o.count) o.contents)

pub state_reachable : (a : Assembler) → fits a ≡ true → reachable (state_of a) ≡ true
unfolding state_of contents_of fits reachable
state_reachable Empty e = refl
state_reachable (Started p) e =
    let o = opened p e in
    let n = few p.count p.gsi o.count in
    let each = contents_fit_lem p.count p.first p.second p.third n o.contents in
    let long = contents_count p.count p.first p.second p.third n in
    rw (o.index, o.ranges, each, long) o.count

-- a state that calls reach has at most three contents, and is kept as the test wants it
contents_kept : (ci : ℕ) (head : Head) (gsi : ℕ) (contents : List ℕ) → Fit ci head gsi contents → length contents ≤ 3
    → (partial_fits (partial_of ci head gsi contents) ≡ true) × (contents_of (partial_of ci head gsi contents) ≡ contents)
unfolding partial_fits partial_of contents_of content_fits contents_fit
contents_kept ci head gsi [] f h = (rw (f.index, f.ranges, f.count), refl)
contents_kept ci head gsi (a ∷ []) f h = (rw (f.index, f.ranges, f.count) f.each, refl)
contents_kept ci head gsi (a ∷ b ∷ []) f h = (rw (f.index, f.ranges, f.count) f.each, refl)
contents_kept ci head gsi (a ∷ b ∷ c ∷ []) f h =
    let e = and_right (ltb a (2 ^ 28)) (ltb b (2 ^ 28) && (ltb c (2 ^ 28) && true)) f.each in
    let e' = and_right (ltb b (2 ^ 28)) (ltb c (2 ^ 28) && true) e in
    (rw (f.index, f.ranges, f.count, and_left (ltb a (2 ^ 28)) _ f.each, and_left (ltb b (2 ^ 28)) _ e, and_left (ltb c (2 ^ 28)) _ e'), refl)
contents_kept ci head gsi (a ∷ b ∷ c ∷ d ∷ contents) f h = absurd (omega arith)

pub assembler_fits : (s : State) → reachable s ≡ true → fits (assembler_of s) ≡ true
unfolding assembler_of fits
assembler_fits empty e = refl
assembler_fits (started ci head gsi contents) e =
    let f = fit e in
    (contents_kept ci head gsi contents f (few (length contents) gsi f.count)).0

pub state_assembler : (s : State) → reachable s ≡ true → state_of (assembler_of s) ≡ s
unfolding assembler_of state_of partial_of
state_assembler empty e = refl
state_assembler (started ci head gsi contents) e =
    let f = fit e in
    ap (started ci head gsi) (contents_kept ci head gsi contents f (few (length contents) gsi f.count)).1
