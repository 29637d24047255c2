-- The laws of rows and their stages.
use Rattle.std.proofs.Common.{◌≡◌, refl, sym, ◌∙◌, ℕ, ◌+◌, ◌-◌, ◌^◌, ◌<◌, ◌≤◌, Bool, true, false, ◌&&◌, None, Some, is_some, arith}
use lib.Dec.{eqb, ltb, leb}
use borrow.Author.Tests.{eqb-true, leb-true, ltb-true, lt-ltb, ne_eqb}
use Rattle.bits.proofs.Choice.{and_left, and_right}
use Rattle.labels.specs.Telephone.{number_codes, letter_codes}
use Rattle.labels.specs.declared.stage.Stage.{Stage}
use Rattle.labels.specs.declared.stage.Stage.TheVariants.{Labels, Numbers, Letters, Cost, Currency}
use Rattle.labels.specs.Rows.{first_row, row_count, code_width, code_width_at, label_rows, code_row, cost_rows, rows, width, next, stage_of, stage_at}
use Rattle.labels.proofs.Table.{at_each, next_is}

-- a test of a row and its stage
abbrev of_stage : (Stage → ℕ → Bool) → ℕ → Bool
of_stage p r = elim (stage_of r) [ Some s ↦ p s r | None ↦ false ]

staged : (p : Stage → ℕ → Bool) (r : ℕ) (s : Stage) → stage_of r ≡ Some s → of_stage p r ≡ true → p s r ≡ true
staged p r s e h = rw (e, of_stage) at h

module _ (r : ℕ) (h : r < row_count) (s : Stage) (e : stage_of r ≡ Some s) where
  within : Stage → ℕ → Bool
  within s r = leb (first_row s) r && ltb (r - first_row s) (2 ^ code_width s)

  inside : within s r ≡ true
  unfolding within
  inside = staged within r s e (at_each (of_stage within) (λ k. true) refl r h)

  -- a row is a code of its stage
  pub stage_le : first_row s ≤ r
  unfolding within
  stage_le = leb-true (first_row s) r (and_left (leb (first_row s) r) (ltb (r - first_row s) (2 ^ code_width s)) inside)

  pub code_lt : r - first_row s < 2 ^ code_width s
  unfolding within
  code_lt = ltb-true (r - first_row s) (2 ^ code_width s) (and_right (leb (first_row s) r) (ltb (r - first_row s) (2 ^ code_width s)) inside)

  long : Stage → ℕ → Bool
  long s r = leb 4 (code_width s + width r)

  -- a code and its value take four bits or more
  pub four-bits : 4 ≤ code_width s + width r
  unfolding number_codes letter_codes label_rows code_row cost_rows rows width long
  four-bits = leb-true 4 (code_width s + width r) (staged long r s e (at_each (of_stage long) (λ k. true) refl r h))

  -- its stage by number is the same
  same : Stage → ℕ → Bool
  same s r = eqb (stage_at r) (first_row s)

  pub stage_same : stage_at r ≡ first_row s
  unfolding same
  stage_same = eqb-true (stage_at r) (first_row s) (staged same r s e (at_each (of_stage same) (λ k. true) refl r h))

-- every row has a stage
pub row_staged : (r : ℕ) → r < row_count → is_some (stage_of r) ≡ true
row_staged r h = at_each (λ k. is_some (stage_of k)) (λ k. true) refl r h

-- a stage's codes by number are as wide; those of a number that is no stage's have four bits
pub code_width_same : (s : Stage) → code_width_at (first_row s) ≡ code_width s
code_width_same Labels = refl
code_width_same Numbers = refl
code_width_same Letters = refl
code_width_same Cost = refl
code_width_same Currency = refl

pub code_four : (n : ℕ) → (n ≡ 32 → ⊥) → (64 ≤ n → n ≤ 65 → ⊥) → 4 ≡ code_width_at n
code_four n a b = sym (rw (ne_eqb n 32 a, ne_eqb n 64 (λ e. b (omega arith) (omega arith)), ne_eqb n 65 (λ e. b (omega arith) (omega arith)), code_width_at))

-- a stage begins at a row
pub stage_row : (s : Stage) → first_row s < row_count
stage_row Labels = omega arith
stage_row Numbers = omega arith
stage_row Letters = omega arith
stage_row Cost = omega arith
stage_row Currency = omega arith

-- a code read at a stage is a row of it
pub stage_of_code : (s : Stage) (c : ℕ) → c < 2 ^ code_width s → stage_of (first_row s + c) ≡ Some s
stage_of_code Labels c k = grind arith
stage_of_code Numbers c k = grind arith
stage_of_code Letters c k = grind arith
stage_of_code Cost c k = grind arith
stage_of_code Currency c k = grind arith

-- after labels 0 to 14 a label is due, and every edition has them
pub label_stage : (r : ℕ) → r < 15 → stage_of r ≡ Some Labels
label_stage r h = grind arith

pub label_next : (r v : ℕ) → r < 15 → next r v ≡ Some Labels
label_next r v h =
    next_is r v
    ∙ rw (ne_eqb r 15 (λ e. omega arith), ne_eqb r 31 (λ e. omega arith), ne_eqb r 63 (λ e. omega arith), ne_eqb r 29 (λ e. omega arith), ne_eqb r 32 (λ e. omega arith), ne_eqb r 62 (λ e. omega arith), ne_eqb r 64 (λ e. omega arith), ne_eqb r 65 (λ e. omega arith), lt-ltb r 16 (omega arith))
