-- How far a walk has come, and one step of it: no FIG is left, the next gives words and the walk goes on, or it is refused. And what the
-- words leave in the buffers.
use Prim.Native.Nat.{ℕ, suc, ◌+◌, ◌-◌, ◌≤◌}
use native.Mathlib.Nat.{sub-zero}
use native.Mathlib.Omega.{arith}
use mathlib.Core.Path.{◌≡◌, refl, sym, ap, ap₂, ◌∙◌}
use mathlib.Core.List.{List, [], ◌∷◌, ◌++◌, map, append_assoc, append-nil}
use lib.ListN.{length, take, drop, length-append, length-drop, drop_of_length-le}
use lib.Seq.{length-take-le, take_at, drop_at, drop-drop, take-add, take_all}
use borrow.Rule.Slice.PartMut.{put_mid}
use Rattle.bits.specs.Lists.{joined}
use Rattle.std.specs.Prelude.{Result, Ok, Err, Some, None}
use Rattle.refusal.specs.declared.Refusal.{Refusal}
use Rattle.fib.specs.Figs.{first_length, figs}
use Rattle.fib.specs.Walk.{Carried, read_one, End, all, refused_at, Walk, and_then, walk_from}
use Rattle.fib.specs.Read.{ending_by, ending, room_in, cells_after}
use Rattle.fib.proofs.Header.{first_fits}
use Rattle.fib.proofs.FigsLaw.{figs-none, figs-first}
use Rattle.fib.proofs.Carrying.{counted, given, one_fits}

-- what the code's answer for one FIG tells
pub count_words : (x : Result (List Carried) Refusal) (k : ℕ) → counted x ≡ Ok k → (x ≡ Ok (given x)) × (length (given x) ≡ k)
count_words (Ok cs) k e = (refl, cc)
count_words (Err n) k e = absurd (cc)

pub count_stop : (x : Result (List Carried) Refusal) (n : Refusal) → counted x ≡ Err n → x ≡ Err n
count_stop (Ok cs) n e = absurd (cc)
count_stop (Err m) n e = cc

-- the walk over the FIGs of some bytes
abbrev pub over : ℕ → ℕ → List ℕ → Walk
over at room s = walk_from at room (figs s)

module _ (s : List ℕ) (at room : ℕ) where
  -- no FIG
  walked_none : first_length s ≡ None → over at room s ≡ record { found = []; end = all }
  unfolding walk_from
  walked_none e = ap (walk_from at room) (figs-none s e)

  module _ (n : ℕ) (e : first_length s ≡ Some n) where
    length-first : length (take n s) ≡ n
    length-first = length-take-le n s (first_fits s n e).1

    first_step : over at room s ≡ and_then at (read_one room (take n s)) (λ k. walk_from (at + length (take n s)) (room - k) (figs (drop n s)))
    unfolding walk_from
    first_step = ap (walk_from at room) (figs-first s n e)

    -- the first gives words
    walked_words : (cs : List Carried) (k : ℕ) → read_one room (take n s) ≡ Ok cs → length cs ≡ k
        → over at room s ≡ record { found = cs ++ (over (at + n) (room - k) (drop n s)).found; end = (over (at + n) (room - k) (drop n s)).end }
    unfolding and_then
    walked_words cs k g h =
        first_step
        ∙ ap (λ (x : Result (List Carried) Refusal). and_then at x (λ k. walk_from (at + length (take n s)) (room - k) (figs (drop n s)))) g
        ∙ ap₂ (λ (a b : ℕ). let w : Walk = record { found = cs ++ (over a (room - b) (drop n s)).found; end = (over a (room - b) (drop n s)).end } in w)
        (ap (λ (m : ℕ). at + m) length-first)
        h

    -- the first is refused
    walked_refused : (m : Refusal) → read_one room (take n s) ≡ Err m → over at room s ≡ record { found = []; end = refused_at m at }
    unfolding and_then
    walked_refused m g = first_step ∙ ap (λ (x : Result (List Carried) Refusal). and_then at x (λ k. walk_from (at + length (take n s)) (room - k) (figs (drop n s)))) g

-- how far a walk has come: at byte at, after count words, what is left of it is what is left to be found
pub record Reached (s : List ℕ) (room at count : ℕ) : Type 0 where
  pub inside : at ≤ length s
  pub fits : count ≤ room
  pub some : count ≤ length (over 0 room s).found
  pub left : (over at (room - count) (drop at s)).found ≡ drop count (over 0 room s).found
  pub same_end : (over at (room - count) (drop at s)).end ≡ (over 0 room s).end

pub started : (s : List ℕ) (room : ℕ) → Reached s room 0 0
started s room = record {
  inside = omega arith;
  fits = omega arith;
  some = omega arith;
  left = ap (λ (m : ℕ). (over 0 m s).found) (sub-zero room);
  same_end = ap (λ (m : ℕ). (over 0 m s).end) (sub-zero room);
}

module _ (s : List ℕ) (room at count : ℕ) (h : Reached s room at count) where
  abbrev all_words : List Carried
  all_words = (over 0 room s).found

  length_left : length (over at (room - count) (drop at s)).found ≡ length all_words - count
  length_left = ap length h.left ∙ length-drop count all_words

  -- nothing is left: the words are all that are found
  module _ (e : End) (w : over at (room - count) (drop at s) ≡ record { found = []; end = e }) where
    counted-all : length all_words ≡ count
    counted-all = omega (arith, length_left, ap (λ (x : Walk). length x.found) w, h.some)

    pub took_all : take count all_words ≡ all_words
    took_all = take_all count all_words (omega (arith, counted-all))

    pub answered : ending_by count e ≡ ending (over 0 room s)
    answered = ap₂ ending_by (sym counted-all) (sym (ap (λ (x : Walk). x.end) w) ∙ h.same_end)

  pub at_last_lem : first_length (drop at s) ≡ None → over at (room - count) (drop at s) ≡ record { found = []; end = all }
  at_last_lem e = walked_none (drop at s) at (room - count) e

  module _ (n : ℕ) (e : first_length (drop at s) ≡ Some n) where
    pub at_refused : (m : Refusal) → read_one (room - count) (take n (drop at s)) ≡ Err m → over at (room - count) (drop at s) ≡ record { found = []; end = refused_at m at }
    at_refused m g = walked_refused (drop at s) at (room - count) n e m g

    -- the next FIG gives k words
    module _ (cs : List Carried) (k : ℕ) (g : read_one (room - count) (take n (drop at s)) ≡ Ok cs) (l : length cs ≡ k) where
      abbrev next : Walk
      next = over (at + n) (room - (count + k)) (drop (at + n) s)

      stepped : over at (room - count) (drop at s) ≡ record { found = cs ++ next.found; end = next.end }
      stepped =
          let left_over : room - count - k ≡ room - (count + k) = omega arith in
          walked_words (drop at s) at (room - count) n e cs k g l
          ∙ ap₂ (λ (m : ℕ) (t : List ℕ). let w : Walk = record { found = cs ++ (over (at + n) m t).found; end = (over (at + n) m t).end } in w)
          left_over
          (drop-drop n at s)

      then_left : drop count all_words ≡ cs ++ next.found
      then_left = sym h.left ∙ ap (λ (w : Walk). w.found) stepped

      -- they follow those before
      pub words_follow : take (count + k) all_words ≡ take count all_words ++ cs
      words_follow = take-add count k all_words ∙ ap (λ (ws : List Carried). take count all_words ++ ws) (ap (take k) then_left ∙ take_at cs next.found k l)

      pub reached : Reached s room (at + n) (count + k)
      reached = record {
        inside = omega (arith, first_fits (drop at s) n e, length-drop at s, h.inside);
        fits = omega (arith, h.fits, l, one_fits (take n (drop at s)) (room - count) cs g);
        some = omega (arith, h.some, length-drop count all_words, ap length then_left, length-append cs next.found, l);
        left = sym (sym (drop-drop k count all_words) ∙ ap (drop k) then_left ∙ drop_at cs next.found k l);
        same_end = sym (ap (λ (w : Walk). w.end) stepped) ∙ h.same_end;
      }

-- the numbers of words that follow others stand in the cells that follow
module _ (number : Carried → ℕ) where
  pub length_numbers : (cs : List Carried) → length (map number cs) ≡ length cs
  length_numbers [] = refl
  length_numbers (c ∷ cs) = ap suc (length_numbers cs)

  numbers_append : (cs ds : List Carried) → map number (cs ++ ds) ≡ map number cs ++ map number ds
  numbers_append [] ds = refl
  numbers_append (c ∷ cs) ds = ap (λ (l : List ℕ). number c ∷ l) (numbers_append cs ds)

  -- words that stand one list after the other
  pub numbers_joined : {A : Type 0} (each : A → List Carried) (by : A → List ℕ) → ((a : A) → map number (each a) ≡ by a) → (l : List A) → map number (joined (map each l)) ≡ joined (map by l)
  unfolding joined
  numbers_joined each by same [] = refl
  numbers_joined each by same (a ∷ l) = numbers_append (each a) (joined (map each l)) ∙ ap₂ (λ (x y : List ℕ). x ++ y) (same a) (numbers_joined each by same l)

  length-cells : (cs : List Carried) (out : List ℕ) → length cs ≤ length out → length (cells_after number cs out) ≡ length out
  unfolding cells_after
  length-cells cs out h = length-append (map number cs) (drop (length cs) out) ∙ omega (arith, length_numbers cs, length-drop (length cs) out)

  pub cells_none : (out : List ℕ) → cells_after number [] out ≡ out
  unfolding cells_after
  cells_none out = refl

  module _ (cs : List Carried) (k : ℕ) (e : length cs ≡ k) (out : List ℕ) where
    cells-before : take k (cells_after number cs out) ≡ map number cs
    unfolding cells_after
    cells-before = take_at (map number cs) (drop (length cs) out) k (length_numbers cs ∙ e)

    cells-behind : drop k (cells_after number cs out) ≡ drop k out
    unfolding cells_after
    cells-behind = drop_at (map number cs) (drop (length cs) out) k (length_numbers cs ∙ e) ∙ ap (λ (m : ℕ). drop m out) e

    cells-more : (ds : List Carried) → map number cs ++ cells_after number ds (drop k out) ≡ cells_after number (cs ++ ds) out
    unfolding cells_after
    cells-more ds =
        ap (λ (l : List ℕ). map number cs ++ (map number ds ++ l)) (drop-drop (length ds) k out)
        ∙ sym (append_assoc (map number cs) (map number ds) (drop (k + length ds) out))
        ∙ ap₂ (λ (l : List ℕ) (m : ℕ). l ++ drop m out)
        (sym (numbers_append cs ds))
        (ap (λ (m : ℕ). m + length ds) (sym e) ∙ sym (length-append cs ds))

    module _ (cells : List ℕ) (c : cells ≡ cells_after number cs out) (fits : k ≤ length out) where
      pub length-same : length cells ≡ length out
      length-same = ap length c ∙ length-cells cs out (omega (arith, e))

      -- the part of the cells behind the words
      pub part_behind : take (length cells - k) (drop k cells) ≡ drop k out
      part_behind = take_all (length cells - k) (drop k cells) (omega (arith, length-drop k cells)) ∙ ap (drop k) c ∙ cells-behind

      -- more numbers are put there
      pub put-more : (ds : List Carried) (ys : List ℕ) → ys ≡ cells_after number ds (take (length cells - k) (drop k cells)) → put_mid k (length cells - k) cells ys ≡ cells_after number (cs ++ ds) out
      put-more ds ys ey =
          let past : length (drop k cells) ≤ length cells - k = omega (arith, length-drop k cells) in
          let none : drop (length cells - k) (drop k cells) ≡ [] = drop_of_length-le (drop k cells) past in
          ap (λ (l : List ℕ). take k cells ++ (ys ++ l)) none
          ∙ ap₂ (λ (x y : List ℕ). x ++ y) (ap (take k) c ∙ cells-before) (append-nil ys ∙ ey ∙ ap (cells_after number ds) part_behind)
          ∙ cells-more ds

-- what is left of the room
pub room_left : (words origins words' origins' : List ℕ) (k : ℕ) → length words' ≡ length words - k → length origins' ≡ length origins - k
    → room_in words' origins' ≡ room_in words origins - k
room_left words origins words' origins' k e f = omega (arith, e, f)
