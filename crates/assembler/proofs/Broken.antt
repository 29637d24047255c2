-- Where content breaks, through the call: a place in its answer is one in the joined content of the message that the word completes.
use Prim.Native.Nat.{ℕ, ◌<◌}
use native.Mathlib.Omega.{arith}
use mathlib.Core.Path.{◌≡◌, refl, sym, ap, subst, ◌∙◌}
use mathlib.Core.Bool.{Bool, true, false, cond, ◌&&◌}
use mathlib.Core.List.{[], ◌∷◌, ◌++◌}
use lib.ListN.{length}
use lib.Dec.{eqb}
use borrow.Author.Tests.{eqb-true}
use Rattle.std.specs.Prelude.{Result, Ok, Err}
use Rattle.refusal.specs.declared.Refusal.{Refusal}
use Rattle.refusal.specs.declared.Refusal.TheVariants.{Unfit}
use Rattle.bits.specs.Fields.{flat}
use Rattle.bits.specs.Outcome.{mapped}
use Rattle.word.specs.declared.Word.{Word}
use Rattle.word.specs.declared.Word.TheVariants.{Single, First, Later, Tuning, Administration, Index7, Beyond}
use Rattle.word.specs.Kind.{kind_of}
use Rattle.content.specs.Packing.{group_bits, longest}
use Rattle.content.specs.Broken.{BreaksAt}
use Rattle.content.proofs.Lengths.{content_length_le}
use Rattle.content.proofs.Broken.{place_lt}
use Rattle.report.specs.declared.Form.TheVariants.{Multi}
use Rattle.report.specs.declared.Unreadable.{Unreadable}
use Rattle.report.specs.declared.Unreadable.TheVariants.{Refused, Broken}
use Rattle.report.specs.InterRoad.{items_at}
use Rattle.report.specs.Read.{Reading, read_report}
use Rattle.report.proofs.Broken.{message_breaks}
use Rattle.transmission.specs.State.{started}
use Rattle.transmission.specs.Step as abstract
use Rattle.assembler.specs.declared.Assembler.{Assembler}
use Rattle.assembler.specs.declared.Assembler.TheVariants.{Empty, Started}
use Rattle.assembler.specs.declared.Partial.{Partial}
use Rattle.assembler.specs.declared.Answer.{Answer}
use Rattle.assembler.specs.Reading.{rules}
use Rattle.assembler.specs.State.{contents_of, state_of}
use Rattle.assembler.specs.Fits.{fits}
use Rattle.assembler.specs.Answers.{answer_of, given, leaving}
use Rattle.assembler.specs.Step.{step_of}

-- the word is the last group of the open message, whose content with it breaks at the place, a bit of 112
pub record Breaks (a : Assembler) (word place : ℕ) (refusal : Refusal) : Type 0 where
  pub p : Partial
  pub ci : ℕ
  pub second : ℕ
  pub content : ℕ
  pub opened : a ≡ Started p
  pub last : kind_of word ≡ Later ci second 0 content
  pub broken : BreaksAt (items_at Multi p.head) (flat group_bits (contents_of p ++ content ∷ [])) place refusal
  pub inside : place < longest

-- no other answer has a place
abbrev HasPlace : Result Answer Unreadable → Type 0
HasPlace (Ok x) = ⊥
HasPlace (Err (Refused refusal)) = ⊥
HasPlace (Err (Broken refusal place)) = Unit {0}

module _ (a : Assembler) (word place : ℕ) (refusal : Refusal) where
  abbrev told : Result Answer Unreadable
  told = Err (Broken refusal place)

  has_place : {x : Result Answer Unreadable} → x ≡ told → HasPlace x
  has_place e = subst HasPlace (sym e) tt

  pub step_breaks : (step_of read_report a word).answer ≡ told → Breaks a word place refusal
  unfolding step_of abstract.step abstract.step_by abstract.later abstract.taken abstract.completed state_of read_report
  step_breaks e = by_state (fits a) e
    where
      same : {x y : Unreadable} → ◌≡◌ {A = Result Answer Unreadable} (Err x) (Err y) → x ≡ y
      same {x} {y} f = cc

      by_message : (p : Partial) (ci second content : ℕ) → a ≡ Started p → kind_of word ≡ Later ci second 0 content
          → (m : Reading) → read_report p.head (contents_of p ++ content ∷ []) ≡ m → mapped answer_of (abstract.completed m).answer ≡ told → Breaks a word place refusal
      by_message p ci second content o k (Ok r) m f = absurd (has_place f)
      by_message p ci second content o k (Err x) m f =
          let l = flat group_bits (contents_of p ++ content ∷ []) in
          let b = (message_breaks p.head l refusal place).0 (m ∙ ap Err (same f)) in
          record {
            p = p;
            ci = ci;
            second = second;
            content = content;
            opened = o;
            last = k;
            broken = b.1;
            inside = omega (arith, content_length_le (length l) b.0, place_lt (items_at Multi p.head) l place refusal b.1);
          }

      by_gsi : (p : Partial) (ci second gsi content : ℕ) → a ≡ Started p → kind_of word ≡ Later ci second gsi content → (b : Bool) → eqb gsi 0 ≡ b
          → mapped answer_of (cond b (abstract.completed (read_report p.head (contents_of p ++ content ∷ []))) (abstract.leaving (started ci p.head gsi (contents_of p ++ content ∷ [])) (Ok abstract.nothing))).answer ≡ told
          → Breaks a word place refusal
      by_gsi p ci second gsi content o k true z f =
          by_message p ci second content o (k ∙ ap (λ (g : ℕ). Later ci second g content) (eqb-true gsi 0 z)) (read_report p.head (contents_of p ++ content ∷ [])) refl f
      by_gsi p ci second gsi content o k false z f = absurd (has_place f)

      by_turn : (p : Partial) (ci second gsi content : ℕ) → a ≡ Started p → kind_of word ≡ Later ci second gsi content → (b : Bool)
          → mapped answer_of (cond b (abstract.taken (rules read_report) ci p.head gsi (contents_of p ++ content ∷ [])) (abstract.strayed (rules read_report))).answer ≡ told → Breaks a word place refusal
      by_turn p ci second gsi content o k true f = by_gsi p ci second gsi content o k (eqb gsi 0) refl f
      by_turn p ci second gsi content o k false f = absurd (has_place f)

      by_open : (b : Assembler) → a ≡ b → (ci second gsi content : ℕ) → kind_of word ≡ Later ci second gsi content
          → mapped answer_of (abstract.later (rules read_report) (state_of b) ci second gsi content).answer ≡ told → Breaks a word place refusal
      by_open Empty o ci second gsi content k f = absurd (has_place f)
      by_open (Started p) o ci second gsi content k f = by_turn p ci second gsi content o k (eqb p.ci ci && abstract.in_turn p.gsi (contents_of p) second gsi) f

      by_word : (w : Word) → kind_of word ≡ w → mapped answer_of (abstract.step_by (rules read_report) (state_of a) w).answer ≡ told → Breaks a word place refusal
      by_word (Single duration diversion head) k f = absurd (has_place f)
      by_word (First ci head) k f = absurd (has_place f)
      by_word (Later ci second gsi content) k f = by_open a refl ci second gsi content k f
      by_word (Tuning m) k f = absurd (has_place f)
      by_word (Administration m) k f = absurd (has_place f)
      by_word (Index7 m) k f = absurd (has_place f)
      by_word (Beyond m) k f = absurd (has_place f)

      by_state : (b : Bool) → (cond b (given (abstract.step (rules read_report) (state_of a) word)) (leaving a (Err (Refused Unfit)))).answer ≡ told → Breaks a word place refusal
      by_state true f = by_word (kind_of word) refl f
      by_state false f = absurd (has_place f)
