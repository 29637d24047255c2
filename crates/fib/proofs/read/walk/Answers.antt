-- The words before `count` are in their cells, and the walk has reached byte `at`.
use Prim.Native.Nat.{ℕ, ◌+◌, ◌-◌, ◌≤◌}
use native.Mathlib.Omega.{arith}
use mathlib.Core.Path.{◌≡◌, sym, ap, ap₂, ◌∙◌}
use mathlib.Core.List.{List, ◌++◌, append-nil}
use lib.ListN.{length, take, drop, length-drop}
use lib.Seq.{length-take-le, take_all}
use borrow.Rule.Slice.PartMut.{put_mid}
use Rattle.std.specs.Prelude.{Result, Ok, Err, Some}
use Rattle.refusal.specs.declared.Refusal.{Refusal}
use Rattle.fib.specs.Figs.{first_length}
use Rattle.fib.specs.Walk.{Carried, all, refused_at, read_one}
use Rattle.fib.specs.Read.{ending_by, room_in, cells_after}
use Rattle.fib.proofs.Header.{first_fits}
use Rattle.fib.proofs.Carrying.{counted, given, one_fits, room_fits}
use Rattle.fib.proofs.Walking.{count_words, count_stop, Reached, started, took_all, answered, at_last_lem, at_refused, words_follow, reached, cells_none, part_behind, put-more, room_left}
use Rattle.fib.proofs.read.walk.Invariants.{word-of, origin-of, found_in}
use Rattle.fib.proofs.read.walk.Goals as goal
use Rattle.fib.proofs.read.walk.Goals.{After-first_length, In-Some}

-- a place of the loop at which the next FIG was looked for
module _ (c : After-first_length) where
  abbrev s : List ℕ
  s = c.args.s.now

  abbrev words₀ : List ℕ
  words₀ = c.args.words.now

  abbrev origins₀ : List ℕ
  origins₀ = c.args.origins.now

  abbrev words : List ℕ
  words = c.loop-n.words

  abbrev origins : List ℕ
  origins = c.loop-n.origins

  abbrev at : ℕ
  at = c.loop-n.fib.at

  abbrev count : ℕ
  count = c.loop-n.fib.count

  abbrev room : ℕ
  room = room_in words₀ origins₀

  abbrev found : List Carried
  found = found_in s words₀ origins₀

  come : Reached s room at count
  come = c.loop-n.invariant.0

  looked : c.first_length.result ≡ first_length (drop at s)
  looked = c.first_length.ensures ∙ ap first_length (take_all (length s - at) (drop at s) (omega (arith, length-drop at s)))

  took : length (take count found) ≡ count
  took = length-take-le count found come.some

  count_fits : (count ≤ length words₀) × (count ≤ length origins₀)
  count_fits = (omega (arith, come.fits, room_fits words₀ origins₀), omega (arith, come.fits, room_fits words₀ origins₀))

  words-now : words ≡ cells_after word-of (take count found) words₀
  words-now = c.loop-n.invariant.1

  origins-now : origins ≡ cells_after origin-of (take count found) origins₀
  origins-now = c.loop-n.invariant.2

  -- what the FIG is read into
  abbrev words_left : List ℕ
  words_left = take (length words - count) (drop count words)

  abbrev origins-left : List ℕ
  origins-left = take (length origins - count) (drop count origins)

  left-room : room_in words_left origins-left ≡ room - count
  left-room =
      room_left words₀ origins₀ words_left origins-left count
      (ap length (part_behind word-of (take count found) count took words₀ words words-now count_fits.0) ∙ length-drop count words₀)
      (ap length (part_behind origin-of (take count found) count took origins₀ origins origins-now count_fits.1) ∙ length-drop count origins₀)

-- the next FIG has n bytes
module _ (c : In-Some) where
  abbrev x : After-first_length
  x = (goal.at.In-Some c).After-first_length

  abbrev n : ℕ
  n = c.in-Some.n

  first : first_length (drop (at x) (s x)) ≡ Some n
  first = sym (looked x) ∙ c.in-Some.is

  end_fits : at x + n ≤ length (s x)
  end_fits = omega (arith, first_fits (drop (at x) (s x)) n first, length-drop (at x) (s x), (come x).inside)

  abbrev one : Result (List Carried) Refusal
  one = read_one (room_in (words_left x) (origins-left x)) (take (at x + n - at x) (drop (at x) (s x)))

  one-is : one ≡ read_one (room x - count x) (take n (drop (at x) (s x)))
  one-is = let m : at x + n - at x ≡ n = omega arith in ap₂ (λ (r k : ℕ). read_one r (take k (drop (at x) (s x)))) (left-room x) m

  -- its words are put behind those before it
  words-put : (ys : List ℕ) → ys ≡ cells_after word-of (given one) (words_left x) → put_mid (count x) (length (words x) - count x) (words x) ys ≡ cells_after word-of (take (count x) (found x) ++ given one) (words₀ x)
  words-put = put-more word-of (take (count x) (found x)) (count x) (took x) (words₀ x) (words x) (words-now x) (count_fits x).0 (given one)

  origins-put : (ys : List ℕ) → ys ≡ cells_after origin-of (given one) (origins-left x)
      → put_mid (count x) (length (origins x) - count x) (origins x) ys ≡ cells_after origin-of (take (count x) (found x) ++ given one) (origins₀ x)
  origins-put = put-more origin-of (take (count x) (found x)) (count x) (took x) (origins₀ x) (origins x) (origins-now x) (count_fits x).1 (given one)

  -- it gave k words
  module _ (k : ℕ) (e : Ok k ≡ counted one) where
    gave : (one ≡ Ok (given one)) × (length (given one) ≡ k)
    gave = count_words one k (sym e)

    gives-words : read_one (room x - count x) (take n (drop (at x) (s x))) ≡ Ok (given one)
    gives-words = sym one-is ∙ gave.0

  -- it was refused
  module _ (m : Refusal) (e : Err m ≡ counted one) where
    is-refused : one ≡ Err m
    is-refused = count_stop one m (sym e)

    -- so it leaves the buffers
    no_words : take (count x) (found x) ++ given one ≡ take (count x) (found x)
    no_words = ap (λ (y : Result (List Carried) Refusal). take (count x) (found x) ++ given y) is-refused ∙ append-nil (take (count x) (found x))

    stops : read_one (room x - count x) (take n (drop (at x) (s x))) ≡ Err m
    stops = sym one-is ∙ is-refused

pub loop-n-init : goal.loop-n-init
loop-n-init c =
    let a = c.args in
    rw c.new-fib.ensures (started a.s.now (room_in a.words.now a.origins.now), sym (cells_none word-of a.words.now), sym (cells_none origin-of a.origins.now))

pub returns : goal.returns
unfolding ending_by
returns c =
    let x = (goal.at.returns c).After-first_length in
    let none = at_last_lem (s x) (room x) (at x) (count x) (come x) (sym (looked x) ∙ c.in_default.is) in
    let whole = took_all (s x) (room x) (at x) (count x) (come x) all none in record {
      value = answered (s x) (room x) (at x) (count x) (come x) all none;
      words_after = words-now x ∙ ap (λ (ws : List Carried). cells_after word-of ws (words₀ x)) whole;
      origins_after = origins-now x ∙ ap (λ (ws : List Carried). cells_after origin-of ws (origins₀ x)) whole;
    }

pub overflow_add-end : goal.overflow_add-end
overflow_add-end c = omega (arith, end_fits (goal.at.overflow_add-end c).In-Some)

pub slice_bounds-read_one-end : goal.slice_bounds-read_one-end
slice_bounds-read_one-end c = omega (arith, end_fits (goal.at.slice_bounds-read_one-end c).In-Some)

pub overflow_add-fib : goal.overflow_add-fib
overflow_add-fib c =
    let y = (goal.at.overflow_add-fib c).In-Some in
    let z = x y in
    let k = c.in-Ok.k in
    let e = c.in-Ok.ensures.value in
    omega (arith, one_fits (take (n y) (drop (at z) (s z))) (room z - count z) (given (one y)) (gives-words y k e), (gave y k e).1, (come z).fits, room_fits (words₀ z) (origins₀ z))

pub loop-n-smaller : goal.loop-n-smaller
loop-n-smaller c =
    let y = (goal.at.loop-n-smaller c).In-Some in
    omega (arith, end_fits y, first_fits (drop (at (x y)) (s (x y))) (n y) (first y))

pub loop-n-preserved : goal.loop-n-preserved
loop-n-preserved c =
    let y = (goal.at.loop-n-preserved c).In-Some in
    let z = x y in
    let k = c.in-Ok.k in
    let e = c.in-Ok.ensures.value in
    let call = c.read_one in
    let follow = sym (words_follow (s z) (room z) (at z) (count z) (come z) (n y) (first y) (given (one y)) k (gives-words y k e) (gave y k e).1) in (
      reached (s z) (room z) (at z) (count z) (come z) (n y) (first y) (given (one y)) k (gives-words y k e) (gave y k e).1,
      words-put y call.new.words call.ensures.words_after ∙ ap (λ (ws : List Carried). cells_after word-of ws (words₀ z)) follow,
      origins-put y call.new.origins call.ensures.origins_after ∙ ap (λ (ws : List Carried). cells_after origin-of ws (origins₀ z)) follow,
    )

pub returns-in-Err : goal.returns-in-Err
unfolding ending_by
returns-in-Err c =
    let y = (goal.at.returns-in-Err c).In-Some in
    let z = x y in
    let m = c.in-Err.refusal in
    let e = c.in-Err.ensures.value in
    let call = c.read_one in
    let stop = at_refused (s z) (room z) (at z) (count z) (come z) (n y) (first y) m (stops y m e) in
    let whole = no_words y m e ∙ took_all (s z) (room z) (at z) (count z) (come z) (refused_at m (at z)) stop in record {
      value = answered (s z) (room z) (at z) (count z) (come z) (refused_at m (at z)) stop;
      words_after = words-put y call.new.words call.ensures.words_after ∙ ap (λ (ws : List Carried). cells_after word-of ws (words₀ z)) whole;
      origins_after = origins-put y call.new.origins call.ensures.origins_after ∙ ap (λ (ws : List Carried). cells_after origin-of ws (origins₀ z)) whole;
    }
