-- Only a word that begins a message drops an open one: any other that is not refused leaves it open, or completes it with a report.
use Prim.Native.Nat.{ℕ}
use mathlib.Core.Path.{◌≡◌, refl, sym, ap, subst, ◌∙◌}
use mathlib.Core.Logic.{◌⊎◌, inl, inr}
use mathlib.Core.Bool.{Bool, true, false, ◌&&◌, cond}
use mathlib.Core.List.{List, [], ◌∷◌, ◌++◌}
use lib.Dec.{eqb}
use borrow.Author.Tests.{eqb-true}
use Rattle.std.specs.Prelude.{Ok, Err, is_ok}
use Rattle.bits.proofs.Choice.{and_left, chosen}
use Rattle.word.specs.declared.Word.{Word}
use Rattle.word.specs.declared.Word.TheVariants.{Single, First, Later, Tuning, Administration, Index7, Beyond}
use Rattle.word.specs.Kind.{kind_of}
use Rattle.report.specs.declared.Report.{Report}
use Rattle.report.specs.Read.{Reading}
use Rattle.transmission.specs.State.{started}
use Rattle.transmission.specs.Step as abstract
use Rattle.assembler.specs.declared.Partial.{Partial}
use Rattle.assembler.specs.declared.Assembler.TheVariants.{Started}
use Rattle.assembler.specs.declared.Answer.TheVariants as answer
use Rattle.assembler.specs.declared.Step.{Step}
use Rattle.assembler.specs.Reading.{Reads, rules}
use Rattle.assembler.specs.State.{contents_of, state_of, partial_of, assembler_of}
use Rattle.assembler.specs.Fits.{fits}
use Rattle.assembler.specs.Answers.{answer_of, given}
use Rattle.assembler.specs.Step.{step_of}
use Rattle.assembler.proofs.CallSteps.{taking}
use Rattle.messages.specs.Messages.{begins}

-- the message is still open, or reported
abbrev Continues : Partial → Step → Type 0
Continues p s = ((q : Partial) × (s.next ≡ Started q) × (q.ci ≡ p.ci) × (q.head ≡ p.head)) ⊎ ((r : Report) × (s.answer ≡ Ok (answer.Report r)))

module _ (read : Reads) (p : Partial) where
  whole-read : (o : Reading) → is_ok (given (abstract.completed o)).answer ≡ true → Continues p (given (abstract.completed o))
  unfolding abstract.completed answer_of
  whole-read (Ok r) t = inr (r, refl)
  whole-read (Err x) t = absurd (cc)

  one_more : (ci gsi : ℕ) (contents : List ℕ) (last : Bool) → ci ≡ p.ci
      → let s = cond last (abstract.completed (read p.head contents)) (abstract.leaving (started ci p.head gsi contents) (Ok abstract.nothing)) in
      is_ok (given s).answer ≡ true → Continues p (given s)
  unfolding assembler_of partial_of
  one_more ci gsi contents true e t = whole-read (read p.head contents) t
  one_more ci gsi contents false e t = inl (partial_of ci p.head gsi contents, refl, e, refl)

  by_kind : (w : Word) → begins w ≡ false → is_ok (taking read (Started p) w).answer ≡ true → Continues p (taking read (Started p) w)
  unfolding abstract.step_by abstract.later abstract.taken begins answer_of state_of assembler_of partial_of
  by_kind (Single duration diversion head) b t = absurd (cc)
  by_kind (First ci head) b t = absurd (cc)
  by_kind (Tuning n) b t = inl (partial_of p.ci p.head p.gsi (contents_of p), refl, refl, refl)
  by_kind (Administration n) b t = inl (partial_of p.ci p.head p.gsi (contents_of p), refl, refl, refl)
  by_kind (Index7 n) b t = absurd (cc)
  by_kind (Beyond n) b t = absurd (cc)
  by_kind (Later ci second gsi content) b t = turn (eqb p.ci ci && abstract.in_turn p.gsi (contents_of p) second gsi) refl t
    where
      turn : (v : Bool) → eqb p.ci ci && abstract.in_turn p.gsi (contents_of p) second gsi ≡ v
          → let s = cond v (abstract.taken (rules read) ci p.head gsi (contents_of p ++ content ∷ [])) (abstract.strayed (rules read)) in
          is_ok (given s).answer ≡ true → Continues p (given s)
      turn true e h = one_more ci gsi (contents_of p ++ content ∷ []) (eqb gsi 0) (sym (eqb-true p.ci ci (and_left (eqb p.ci ci) _ e))) h
      turn false e h = absurd (cc)

pub continues : (read : Reads) (p : Partial) (n : ℕ) → fits (Started p) ≡ true → begins (kind_of n) ≡ false → is_ok (step_of read (Started p) n).answer ≡ true → Continues p (step_of read (Started p) n)
unfolding step_of abstract.step
continues read p n f b t =
    let same : step_of read (Started p) n ≡ taking read (Started p) (kind_of n) = chosen _ _ _ f in
    subst (Continues p) (sym same) (by_kind read p (kind_of n) b (sym (ap (λ (s : Step). is_ok s.answer) same) ∙ t))
