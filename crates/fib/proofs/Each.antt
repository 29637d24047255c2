-- A block gives what the FIG reader gives for each of its FIGs 5/1 by itself, in order (`whole_each`); where the reading stopped, it gives
-- this of the FIGs 5/1 before the one at which it stopped, and that one the FIG reader refuses (`stopped_by`).
use Prim.Native.Nat.{ℕ, ◌-◌}
use native.Mathlib.Nat.{zero-add}
use native.Mathlib.Omega.{arith}
use mathlib.Core.Path.{◌≡◌, sym, ap, ap₂, ◌∙◌}
use mathlib.Core.List.{List, ◌++◌, map}
use lib.ListN.{length, drop}
use Rattle.std.specs.Prelude.{Ok}
use Rattle.refusal.specs.declared.Refusal.{Refusal}
use Rattle.bits.specs.Lists.{joined}
use Rattle.crc.specs.Block.{payload}
use Rattle.fig.specs.Read.{read_fig}
use Rattle.fib.specs.declared.Fib.{Fib}
use Rattle.fib.specs.declared.Reading.TheVariants.{Whole, Stopped}
use Rattle.fib.specs.Figs.{figs}
use Rattle.fib.specs.Walk.{Carried, carried_by}
use Rattle.fib.specs.Read.{check_block, block_walk, read_block, read_words, origin_of, cells_after}
use Rattle.fib.specs.Each.{tmcs, fig_by, words_by, origins_by, GivenBy, StoppedBy}
use Rattle.fib.proofs.Carrying.{words-carried, origins-carried}
use Rattle.fib.proofs.Walking.{length_numbers, numbers_joined}
use Rattle.fib.proofs.Blocks.{block_words}
use Rattle.fib.proofs.Answers.{whole_walk, stopped_walk}
use Rattle.fib.proofs.Passing.{given_by, Passed, passed_all, halted}

-- a number of each word that is given for FIGs
module _ (number : Carried → ℕ) (by : List ℕ → List ℕ) (same : (f : List ℕ) → map number (carried_by (fig_by f) (words_by f)) ≡ by f) where
  module _ (fs : List (List ℕ)) (cs : List Carried) (e : cs ≡ given_by fs) where
    numbers_given : map number cs ≡ joined (map by fs)
    numbers_given = ap (map number) e ∙ numbers_joined number (λ f. carried_by (fig_by f) (words_by f)) by same fs

    length-given : length cs ≡ length (joined (map by fs))
    length-given = sym (length_numbers number cs) ∙ ap length numbers_given

    cells-given : (n : ℕ) (out : List ℕ) → n ≡ length cs → cells_after number cs out ≡ joined (map by fs) ++ drop n out
    unfolding cells_after
    cells-given n out h = ap₂ (λ (l : List ℕ) (m : ℕ). l ++ drop m out) numbers_given (sym h)

word-of : (f : List ℕ) → map (λ (c : Carried). c.word) (carried_by (fig_by f) (words_by f)) ≡ words_by f
word-of f = words-carried (fig_by f) (words_by f)

origin-of : (f : List ℕ) → map (λ (c : Carried). origin_of c.fig) (carried_by (fig_by f) (words_by f)) ≡ origins_by f
origin-of f = origins-carried (fig_by f) (words_by f)

module _ (s : List ℕ) (room : ℕ) where
  -- what the walk passed is what the block gives
  given_by_lem : (fs : List (List ℕ)) (n : ℕ) → check_block s ≡ Ok tt → n ≡ length (block_walk s room).found → Passed room fs (block_walk s room).found → GivenBy (tmcs fs) s room n
  given_by_lem fs n z e p =
      let found = block_words s room z in
      let given : read_words s room ≡ given_by (tmcs fs) = found ∙ p.given in
      let count : n ≡ length (read_words s room) = e ∙ ap length (sym found) in
      record {
        taken = p.taken;
        count = count ∙ length-given (λ c. c.word) words_by word-of (tmcs fs) (read_words s room) given;
        fits = omega (arith, p.fits);
        words = λ out. cells-given (λ c. c.word) words_by word-of (tmcs fs) (read_words s room) given n out count;
        origins = λ out. cells-given (λ c. origin_of c.fig) origins_by origin-of (tmcs fs) (read_words s room) given n out count;
      }

  pub whole_each : (n : ℕ) → read_block s room ≡ Ok (Whole n) → GivenBy (tmcs (figs (payload s))) s room n
  whole_each n e =
      let t = whole_walk s room n e in
      given_by_lem (figs (payload s)) n t.0 t.1 (passed_all (figs (payload s)) 0 room t.2)

  pub stopped_by : (fib : Fib) (n : Refusal) → read_block s room ≡ Ok (Stopped fib n) → StoppedBy s room fib n
  stopped_by fib n e =
      let t = stopped_walk s room fib n e in
      let h = halted (figs (payload s)) 0 room n fib.at t.2 in
      record {
        before = h.before;
        fig = h.fig;
        behind = h.behind;
        all = h.figs;
        tmc = h.tmc;
        begins = h.begins ∙ zero-add (length (joined h.before));
        given = given_by_lem h.before fib.count t.0 t.1 h.passed;
        refused = ap (λ (m : ℕ). read_fig h.fig (room - m)) t.1 ∙ h.refuses;
      }
