-- A later group's turn, and the message with one group more.
use Prim.Native.Nat.{ℕ, zero, suc, ◌+◌, ◌≤◌}
use native.Mathlib.Omega.{arith}
use mathlib.Core.Path.{◌≡◌, refl, sym, ◌∙◌}
use mathlib.Core.Bool.{Bool, true, false, cond, ◌&&◌}
use mathlib.Core.List.{[], ◌∷◌, ◌++◌}
use lib.Dec.{leb, eqb}
use lib.ListN.{take}
use borrow.Author.Tests.{eqb-true, ne_eqb, leb-true}
use Rattle.std.specs.Prelude.{Ok}
use Rattle.bits.proofs.Choice.{and_left, and_right}
use Rattle.word.specs.declared.Head.{Head}
use Rattle.report.specs.Read.{read_report}
use Rattle.transmission.specs.State.{started}
use Rattle.transmission.specs.Step.{nothing, leaving, strayed, in_turn, completed, taken, later}
use Rattle.transmission.specs.Reachable.{count_fits}
use Rattle.assembler.specs.declared.Partial.{Partial}
use Rattle.assembler.specs.declared.Assembler.TheVariants.{Started}
use Rattle.assembler.specs.Reading.{rules}
use Rattle.assembler.specs.State.{contents_of, state_of, partial_of}
use Rattle.assembler.specs.Fits.{content_fits, partial_fits}
use Rattle.assembler.proofs.States.{Contents, opened}

-- the turn, by the number of later groups so far
pub first_turn : (p : Partial) (second gsi : ℕ) → p.count ≡ 0 → in_turn p.gsi (contents_of p) second gsi ≡ eqb second 1
unfolding in_turn contents_of
first_turn p second gsi e = rw e

pub next_turn : (p : Partial) (second gsi : ℕ) → (p.count ≡ 0 → ⊥) → in_turn p.gsi (contents_of p) second gsi ≡ eqb second 0 && eqb p.gsi (suc gsi)
unfolding in_turn contents_of
next_turn p second gsi more = by_count p.count more
  where
    by_count : (n : ℕ) → (n ≡ 0 → ⊥) → in_turn p.gsi (take n (p.first ∷ p.second ∷ p.third ∷ [])) second gsi ≡ eqb second 0 && eqb p.gsi (suc gsi)
    by_count zero h = absurd (h refl)
    by_count (suc n) h = refl

-- a group in its turn that does not complete finds a free position
free : (p : Partial) (second gsi : ℕ) → in_turn p.gsi (contents_of p) second gsi ≡ true → count_fits p.count p.gsi ≡ true → (gsi ≡ 0 → ⊥) → p.count ≤ 2
unfolding count_fits in_turn contents_of
free p second gsi turn all more = by_count p.count turn all
  where
    by_count : (n : ℕ) → in_turn p.gsi (take n (p.first ∷ p.second ∷ p.third ∷ [])) second gsi ≡ true → count_fits n p.gsi ≡ true → n ≤ 2
    by_count zero t f = omega arith
    by_count (suc n) t f =
        let last = eqb-true p.gsi (suc gsi) (and_right (eqb second 0) (eqb p.gsi (suc gsi)) t) in
        let few = leb-true (suc n + p.gsi) 4 (and_right (leb 1 p.gsi) (leb (suc n + p.gsi) 4) f) in
        omega arith

-- so that the message can be extended, by the two tests of the code
pub room : (p : Partial) (same turn : Bool) (second gsi : ℕ) → partial_fits p ≡ true → turn ≡ in_turn p.gsi (contents_of p) second gsi → same && turn ≡ true → (gsi ≡ 0 → ⊥)
    → (p.count ≤ 2) × (partial_fits p ≡ true)
room p same turn second gsi fits e t more = (free p second gsi (sym e ∙ and_right same turn t) (opened p fits).count more, fits)

-- one content more, at the first free position
pub one_more : (ci : ℕ) (head : Head) (gsi count a b c content : ℕ) → count ≤ 2 → Contents count a b c
    → record {
      ci = ci;
      head = head;
      gsi = gsi;
      count = count + 1;
      first = cond (eqb count 0) content a;
      second = cond (eqb count 1) content b;
      third = cond (eqb count 2) content c;
    } ≡ partial_of ci head gsi (take count (a ∷ b ∷ c ∷ []) ++ content ∷ [])
unfolding partial_of content_fits
one_more ci head gsi zero a b c content h p = rw (eqb-true b 0 p.second, eqb-true c 0 p.third)
one_more ci head gsi (suc zero) a b c content h p = rw (eqb-true c 0 p.third)
one_more ci head gsi (suc (suc zero)) a b c content h p = refl
one_more ci head gsi (suc (suc (suc k))) a b c content h p = absurd (omega arith)

-- a later group while a message is open, by its turn
module _ (p : Partial) (ci second gsi content : ℕ) where
  abbrev turn : Bool
  turn = eqb p.ci ci && in_turn p.gsi (contents_of p) second gsi

  pub last_group : turn ≡ true → gsi ≡ 0 → completed (read_report p.head (contents_of p ++ content ∷ [])) ≡ later (rules read_report) (state_of (Started p)) ci second gsi content
  unfolding later taken state_of
  last_group t z = rw (t, z)

  pub another_group : turn ≡ true → (gsi ≡ 0 → ⊥) → leaving (started p.ci p.head gsi (contents_of p ++ content ∷ [])) (Ok nothing) ≡ later (rules read_report) (state_of (Started p)) ci second gsi content
  unfolding later taken state_of
  another_group t more = rw (t, ne_eqb gsi 0 more, eqb-true p.ci ci (and_left (eqb p.ci ci) (in_turn p.gsi (contents_of p) second gsi) t))

  pub stray_group : turn ≡ false → strayed (rules read_report) ≡ later (rules read_report) (state_of (Started p)) ci second gsi content
  unfolding later state_of
  stray_group t = rw t
