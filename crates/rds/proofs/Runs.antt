-- The repeat rule over a whole reception: the valid words are those of the runs of two or more, in order.
use Prim.Native.Nat.{ℕ, suc, ◌^◌, ◌<◌}
use native.Mathlib.Nat.{lt_of_lt_of_le}
use mathlib.Core.Path.{◌≡◌, refl, sym, ap, subst, ◌∙◌}
use mathlib.Core.Bool.{Bool, true, false, ◌&&◌, cond}
use mathlib.Core.List.{List, [], ◌∷◌}
use lib.ListN.{length, take, drop, length-take}
use lib.Pow.{pow_mono}
use lib.Dec.{eqb, ltb}
use borrow.Author.Tests.{eqb-true, eq-eqb, le-leb, lt-ltb}
use native.Mathlib.Omega.{arith}
use Rattle.std.specs.Prelude.{Result, Ok, Err}
use Rattle.refusal.specs.declared.Refusal.{Refusal}
use Rattle.bits.specs.Bits.{val}
use Rattle.bits.specs.Fields.{flat, unpack}
use Rattle.bits.proofs.Choice.{chosen, passed_over}
use Rattle.bits.proofs.Value.{val_lt}
use Rattle.refusal.proofs.Checks.{passed}
use Rattle.rds.specs.declared.Group.{Group}
use Rattle.rds.specs.declared.Step.{Step}
use Rattle.rds.specs.declared.Run.{Run}
use Rattle.rds.specs.declared.Run.TheVariants.{Empty, One, More}
use Rattle.rds.specs.Format.{group_length, group_format, type_in, version_in, word_in, word_limit}
use Rattle.rds.specs.Read.{group_of, group_by, read_group}
use Rattle.rds.specs.Repeat.{next_run, answer_to, after_reading, run_fits, received}
use Rattle.rds.specs.Answers.{answers}
use Rattle.rds.specs.Runs.{Equal, equal, before, runs, counted, word_then, words8_a, valid_then, valid_words}

-- the valid words of a list of 8A words, from a run
heard_from : Run → List ℕ → List ℕ
heard_from r [] = []
heard_from r (w ∷ ws) = valid_then (answer_to r w) (heard_from (next_run r w) ws)

-- a number of w bits is in range
small : (w : ℕ) (l : List Bool) → val (take w l) < 2 ^ w
small w l = lt_of_lt_of_le (val_lt (take w l)) (pow_mono (omega (arith, length-take w l)))

word_lt : (l : List Bool) → word_in (unpack group_format l) < word_limit
unfolding unpack
word_lt l = small 37 (drop 5 (drop 1 (drop 1 (drop 4 (drop 16 l)))))

either : (t : Bool) (w : ℕ) → ltb w word_limit ≡ true → run_fits (cond t (More w) (One w)) ≡ true
unfolding run_fits
either true w h = h
either false w h = h

-- the word of a group that reads has 37 bits
read_small : (s : List ℕ) (g : Group) → read_group s ≡ Ok g → ltb g.word word_limit ≡ true
unfolding read_group group_by
read_small s g e =
    let fields = unpack group_format (flat 8 s) in
    let whole = passed (eqb (length s) group_length) _ _ g e in
    let same : group_of fields ≡ g = cc (passed (eqb (type_in fields) 8 && eqb (version_in fields) 0) _ _ g whole.1).1 in
    lt-ltb g.word word_limit (subst (λ (x : Group). x.word < word_limit) same (word_lt (flat 8 s)))

next_fits : (r : Run) (w : ℕ) → ltb w word_limit ≡ true → run_fits (next_run r w) ≡ true
unfolding run_fits next_run
next_fits Empty w h = h
next_fits (One v) w h = either (eqb v w) w h
next_fits (More v) w h = either (eqb v w) w h

-- a group received, by what it reads as
by_reading : (r : Run) (x : Result Group Refusal) (ws : List ℕ) (rest : Run → List ℕ) → run_fits r ≡ true → ((g : Group) → x ≡ Ok g → ltb g.word word_limit ≡ true)
    → ((q : Run) → run_fits q ≡ true → rest q ≡ heard_from q ws)
    → valid_then (after_reading r x).answer (rest (after_reading r x).run) ≡ heard_from r (word_then x ws)
unfolding heard_from after_reading
by_reading r (Ok g) ws rest f small h = ap (valid_then (answer_to r g.word)) (h (next_run r g.word) (next_fits r g.word (small g refl)))
by_reading r (Err refusal) ws rest f small h = h r f

of-groups : (groups : List (List ℕ)) (r : Run) → run_fits r ≡ true → valid_words (answers r groups) ≡ heard_from r (words8_a groups)
unfolding valid_words answers words8_a heard_from received
of-groups [] r f = refl
of-groups (s ∷ groups) r f =
    ap (λ (x : Step). valid_then x.answer (valid_words (answers x.run groups))) (chosen _ _ _ f)
    ∙ by_reading r (read_group s) (words8_a groups) (λ q. valid_words (answers q groups)) f (read_small s) (of-groups groups)

-- the runs of a list begin with that of its first word
record Begins (w : ℕ) (l : List Equal) : Type 0 where
  more : ℕ
  rest : List Equal
  is : l ≡ equal w (suc more) ∷ rest

begins-before : (w : ℕ) (l : List Equal) → Begins w (before w l)
unfolding before
begins-before w [] = record { more = 0; rest = []; is = refl }
begins-before w (equal v n ∷ rs) = by_word (eqb w v) refl
  where
    by_word : (b : Bool) → eqb w v ≡ b → Begins w (cond (eqb w v) (equal v (suc n) ∷ rs) (equal w 1 ∷ equal v n ∷ rs))
    by_word true e = record { more = n; rest = rs; is = chosen _ _ _ e ∙ ap (λ (x : ℕ). equal x (suc n) ∷ rs) (sym (eqb-true w v e)) }
    by_word false e = record { more = 0; rest = equal v n ∷ rs; is = passed_over _ _ _ e }

-- an equal word joins the first run, another one begins a run of one
joins : (w v n : ℕ) (rs : List Equal) → eqb w v ≡ true → before w (equal v n ∷ rs) ≡ equal v (suc n) ∷ rs
unfolding before
joins w v n rs e = chosen _ _ _ e

parts : (w v n : ℕ) (rs : List Equal) → eqb w v ≡ false → before w (equal v n ∷ rs) ≡ equal w 1 ∷ equal v n ∷ rs
unfolding before
parts w v n rs e = passed_over _ _ _ e

self : (w : ℕ) → eqb w w ≡ true
self w = eq-eqb w w refl

many : (w n : ℕ) (rs : List Equal) → counted (equal w (suc (suc n)) ∷ rs) ≡ w ∷ counted rs
unfolding counted
many w n rs = chosen _ _ _ (le-leb 2 (suc (suc n)) (omega arith))

single : (w : ℕ) (rs : List Equal) → counted (equal w 1 ∷ rs) ≡ counted rs
unfolding counted
single w rs = refl

-- what the next word x does to a run of one and to a longer one
module _ (w x : ℕ) (ws : List ℕ) where
  one_equal : eqb w x ≡ true → heard_from (One w) (x ∷ ws) ≡ x ∷ heard_from (More x) ws
  unfolding heard_from answer_to next_run
  one_equal e = rw e

  one_other : eqb w x ≡ false → heard_from (One w) (x ∷ ws) ≡ heard_from (One x) ws
  unfolding heard_from answer_to next_run
  one_other e = rw e

  more-equal : eqb w x ≡ true → heard_from (More w) (x ∷ ws) ≡ heard_from (More x) ws
  unfolding heard_from answer_to next_run
  more-equal e = rw e

  more_other : eqb w x ≡ false → heard_from (More w) (x ∷ ws) ≡ heard_from (One x) ws
  unfolding heard_from answer_to next_run
  more_other e = rw e

-- a run of one and a longer run, with the words after it
record After (ws : List ℕ) (w : ℕ) : Type 0 where
  one : heard_from (One w) ws ≡ counted (before w (runs ws))
  two : w ∷ heard_from (More w) ws ≡ counted (before w (before w (runs ws)))

-- an equal word joins the run
equal_next : (x : ℕ) (ws : List ℕ) → After ws x → After (x ∷ ws) x
unfolding runs
equal_next x ws h =
    let l = before x (runs ws) in
    let b = begins-before x (runs ws) in
    let once : before x l ≡ equal x (suc (suc b.more)) ∷ b.rest = ap (before x) b.is ∙ joins x x (suc b.more) b.rest (self x) in
    let twice : before x (before x l) ≡ equal x (suc (suc (suc b.more))) ∷ b.rest = ap (before x) once ∙ joins x x (suc (suc b.more)) b.rest (self x) in
    record {
      one = one_equal x x ws (self x) ∙ h.two;
      two =
          ap (λ (v : List ℕ). x ∷ v) (more-equal x x ws (self x))
          ∙ h.two
          ∙ ap counted once
          ∙ many x b.more b.rest
          ∙ sym (ap counted twice ∙ many x (suc b.more) b.rest);
    }

-- another word begins a run of its own
other_next : (w x : ℕ) (ws : List ℕ) → eqb w x ≡ false → After ws x → After (x ∷ ws) w
unfolding runs
other_next w x ws e h =
    let l = before x (runs ws) in
    let b = begins-before x (runs ws) in
    let once : before w l ≡ equal w 1 ∷ l = ap (before w) b.is ∙ parts w x (suc b.more) b.rest e ∙ ap (λ (v : List Equal). equal w 1 ∷ v) (sym b.is) in
    let twice : before w (before w l) ≡ equal w 2 ∷ l = ap (before w) once ∙ joins w w 1 l (self w) in
    record {
      one = one_other w x ws e ∙ h.one ∙ sym (ap counted once ∙ single w l);
      two = ap (λ (v : List ℕ). w ∷ v) (more_other w x ws e ∙ h.one) ∙ sym (ap counted twice ∙ many w 0 l);
    }

after : (ws : List ℕ) (w : ℕ) → After ws w
unfolding heard_from runs counted before
after [] w = record { one = refl; two = sym (ap counted (joins w w 1 [] (self w)) ∙ many w 0 []) }
after (x ∷ ws) w = by_word (after ws x) (eqb w x) refl
  where
    by_word : After ws x → (b : Bool) → eqb w x ≡ b → After (x ∷ ws) w
    by_word h true e = subst (After (x ∷ ws)) (sym (eqb-true w x e)) (equal_next x ws h)
    by_word h false e = other_next w x ws e h

from_empty : (ws : List ℕ) → heard_from Empty ws ≡ counted (runs ws)
unfolding heard_from answer_to next_run runs counted
from_empty [] = refl
from_empty (w ∷ ws) = (after ws w).one

empty-fits : run_fits Empty ≡ true
unfolding run_fits
empty-fits = refl

pub repeat_rule : (groups : List (List ℕ)) → valid_words (answers Empty groups) ≡ counted (runs (words8_a groups))
repeat_rule groups = of-groups groups Empty empty-fits ∙ from_empty (words8_a groups)
