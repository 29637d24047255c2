-- The way back: the cells that `write` filled read back, and received twice running they give their word, once.
use Prim.Native.Nat.{ℕ, zero, suc}
use mathlib.Core.Path.{◌≡◌, refl, ap, ◌∙◌}
use mathlib.Core.Bool.{Bool, true, ◌&&◌}
use mathlib.Core.List.{List, ◌∷◌, ◌++◌}
use lib.ListN.{length, take, drop, replicate}
use lib.Seq.{take_at}
use lib.Dec.{leb, ltb}
use borrow.Author.Tests.{eq-eqb}
use Rattle.std.specs.Prelude.{Result, Ok, Option, Some, None}
use Rattle.refusal.specs.declared.Refusal.{Refusal}
use Rattle.refusal.proofs.Checks.{passed}
use Rattle.bits.specs.Fields.{words, unpack, pack, fits}
use Rattle.bits.proofs.Choice.{and_left, and_right, chosen}
use Rattle.bits.proofs.Fields.{length-words, flat-words}
use Rattle.bits.proofs.Formats.{length-pack, unpack-pack}
use Rattle.rds.specs.declared.Group.{Group}
use Rattle.rds.specs.declared.Run.{Run}
use Rattle.rds.specs.declared.Run.TheVariants.{Empty, One, More}
use Rattle.rds.specs.declared.Step.{Step}
use Rattle.rds.specs.Format.{group_length, group_format, group_values, word_limit}
use Rattle.rds.specs.Read.{group_by, read_group}
use Rattle.rds.specs.Write.{write_group, group_bytes, buffer_after}
use Rattle.rds.specs.Repeat.{next_run, answer_to, begun, heard, after_reading, run_fits, received}
use Rattle.rds.specs.Answers.{Last, answers}
use Rattle.rds.proofs.Repeats.{heard-second, heard-later, other_than_one, other_than_more}

length-bytes : (g : Group) → length (group_bytes g) ≡ group_length
unfolding group_bytes
length-bytes g = length-words 8 group_length (pack group_format (group_values g))

module _ (g : Group) (fit : fits group_format (group_values g) ≡ true) where
  -- PI, TP, PTY and the word read back
  pub write_read : read_group (group_bytes g) ≡ Ok g
  unfolding read_group group_by group_bytes
  write_read =
      let l = pack group_format (group_values g) in
      chosen _ _ _ (eq-eqb (length (words 8 8 l)) 8 (length-words 8 8 l))
      ∙ ap group_by (ap (unpack group_format) (flat-words 8 8 l (length-pack group_format (group_values g) fit)) ∙ unpack-pack group_format (group_values g) fit)

  -- its word has 37 bits
  word_small : ltb g.word word_limit ≡ true
  unfolding fits
  word_small =
      and_left _ _ (and_right (ltb g.pty 32) _ (and_right (ltb g.tp 2) _ (and_right (ltb 0 2) _ (and_right (ltb 8 16) _ (and_right (ltb g.pi 65536) _ fit)))))

  one_fits : run_fits (One g.word) ≡ true
  unfolding run_fits
  one_fits = word_small

  more-fits : run_fits (More g.word) ≡ true
  unfolding run_fits
  more-fits = word_small

  receive-written : (r : Run) → run_fits r ≡ true → received r (group_bytes g) ≡ heard r g.word
  unfolding received after_reading
  receive-written r f = chosen _ _ _ f ∙ ap (after_reading r) write_read

  -- the first copy begins a run, where the last word before it is not equal to its own
  first_copy : (r : Run) → run_fits r ≡ true → (Last r g.word → ⊥) → received r (group_bytes g) ≡ begun g.word
  unfolding Last next_run answer_to
  first_copy Empty f h = receive-written Empty f
  first_copy (One v) f h = receive-written (One v) f ∙ other_than_one v g.word h
  first_copy (More v) f h = receive-written (More v) f ∙ other_than_more v g.word h

  -- a copy more, by what is known of its step
  one_more : (r : Run) (t : Step) (rest : List (List ℕ)) → received r (group_bytes g) ≡ t → answers r (group_bytes g ∷ rest) ≡ t.answer ∷ answers t.run rest
  unfolding answers
  one_more r t rest e = ap (λ (x : Step). x.answer ∷ answers x.run rest) e

  more_copies : (n : ℕ) → answers (More g.word) (replicate n (group_bytes g)) ≡ replicate n (Ok None)
  unfolding answers
  more_copies zero = refl
  more_copies (suc n) =
      one_more (More g.word) _ (replicate n (group_bytes g)) (receive-written (More g.word) more-fits ∙ heard-later g.word g.word refl)
      ∙ ap (λ (l : List (Result (Option ℕ) Refusal)). Ok None ∷ l) (more_copies n)

  -- exactly one valid word, at the second copy, whatever the number of copies after it
  copies_back : (r : Run) → run_fits r ≡ true → (Last r g.word → ⊥) → (n : ℕ) → answers r (replicate (suc (suc n)) (group_bytes g)) ≡ Ok None ∷ Ok (Some g.word) ∷ replicate n (Ok None)
  copies_back r f h n =
      let copies = replicate n (group_bytes g) in
      one_more r (begun g.word) (group_bytes g ∷ copies) (first_copy r f h)
      ∙ ap (λ (l : List (Result (Option ℕ) Refusal)). Ok None ∷ l)
      (one_more (One g.word) _ copies (receive-written (One g.word) one_fits ∙ heard-second g.word g.word refl) ∙ ap (λ (l : List (Result (Option ℕ) Refusal)). Ok (Some g.word) ∷ l) (more_copies n))

-- what is written is in range, and there was room
written-fits : (g : Group) (room : ℕ) → write_group g room ≡ Ok tt → (fits group_format (group_values g) ≡ true) × (leb group_length room ≡ true)
unfolding write_group
written-fits g room e =
    let fit = passed (fits group_format (group_values g)) _ _ tt e in
    (fit.0, (passed (leb group_length room) _ _ tt fit.1).0)

-- the first eight cells of a buffer into which a group was written read back as the group; received twice or more, where the run before is
-- one that groups give and its word is another, they give its word, once, at the second copy
pub way_back : (g : Group) (out : List ℕ) → write_group g (length out) ≡ Ok tt
    → let s = take group_length (buffer_after g out) in
    (read_group s ≡ Ok g) × ((r : Run) → run_fits r ≡ true → (Last r g.word → ⊥) → (n : ℕ) → answers r (replicate (suc (suc n)) s) ≡ Ok None ∷ Ok (Some g.word) ∷ replicate n (Ok None))
unfolding buffer_after
way_back g out e =
    let w = written-fits g (length out) e in
    let filled : buffer_after g out ≡ group_bytes g ++ drop group_length out = chosen _ _ _ (ap (λ (t : Bool). t && leb group_length (length out)) w.0 ∙ w.1) in
    let bytes : take group_length (buffer_after g out) ≡ group_bytes g = ap (take group_length) filled ∙ take_at (group_bytes g) (drop group_length out) group_length (length-bytes g) in (
      ap read_group bytes ∙ write_read g w.0,
      λ r f h n. ap (λ (s : List ℕ). answers r (replicate (suc (suc n)) s)) bytes ∙ copies_back g w.0 r f h n,
    )
