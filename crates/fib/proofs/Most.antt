-- A block has at most 14 words (`most_words_lem`), and with room for 14 none of its FIGs is refused for want of room (`enough_room`).
use Prim.Native.Nat.{ℕ, ◌+◌, ◌-◌, ◌*◌, ◌≤◌}
use native.Mathlib.Nat.{le_refl}
use native.Mathlib.Omega.{arith}
use mathlib.Core.Path.{◌≡◌, refl, ap, subst}
use mathlib.Core.Logic.{inl, inr}
use mathlib.Core.List.{List, [], ◌∷◌, map}
use lib.ListN.{length, drop, length-append, length-drop}
use Rattle.std.specs.Prelude.{Result, Ok, Err}
use Rattle.refusal.specs.declared.Refusal.{Refusal}
use Rattle.refusal.specs.declared.Refusal.TheVariants.{SmallBuffer}
use Rattle.bits.specs.Lists.{joined}
use Rattle.bits.proofs.Choice.{either}
use Rattle.crc.specs.Block.{payload}
use Rattle.fig.specs.Read.{fields, fig_of}
use Rattle.fig.proofs.Data.{two_bytes}
use Rattle.fig.proofs.Answers.{taken-length}
use Rattle.fib.specs.declared.Fib.{Fib}
use Rattle.fib.specs.declared.Reading.{Reading}
use Rattle.fib.specs.declared.Reading.TheVariants.{Whole, Stopped}
use Rattle.fib.specs.Format.{most_words}
use Rattle.fib.specs.Figs.{figs}
use Rattle.fib.specs.Walk.{is_tmc}
use Rattle.fib.specs.Read.{read_block, read_words}
use Rattle.fib.specs.Each.{tmcs, words_by, IsTaken, AllTaken, GivenBy}
use Rattle.fib.specs.Answers.{count_in}
use Rattle.fib.specs.Refusals.{Why}
use Rattle.fib.proofs.Within.{figs_short}
use Rattle.fib.proofs.Answers.{whole_walk, count_told}
use Rattle.fib.proofs.Passing.{tmcs-more, tmcs-same}
use Rattle.fib.proofs.Each.{whole_each, stopped_by}
use Rattle.fib.proofs.Refusals.{stopped_short, stopped_why}

-- a FIG has two bytes for each word, and two more
one_few : (f : List ℕ) → IsTaken f → length (words_by f) * 2 + 2 ≤ length f
one_few f t = let n = length (words_by f) in (taken-length f n _ (t.answer n (le_refl n))).0

-- and so have some FIGs, where they have words at all
few : (fs : List (List ℕ)) → AllTaken (tmcs fs) → length (joined (map words_by (tmcs fs))) * 2 ≤ length (joined fs) - 2
unfolding tmcs joined
few [] t = omega arith
few (f ∷ fs) t = either (is_tmc f)
    (λ h.
    let more = tmcs-more f fs h in
    let each = subst AllTaken more t in
    omega (arith, ap (λ (l : List (List ℕ)). length (joined (map words_by l))) more, length-append (words_by f) (joined (map words_by (tmcs fs))), length-append f (joined fs), one_few f each.0, few fs each.1))
    (λ h.
    let same = tmcs-same f fs h in
    omega (arith, ap (λ (l : List (List ℕ)). length (joined (map words_by l))) same, length-append f (joined fs), few fs (subst AllTaken same t)))

given-few : (fs : List (List ℕ)) (s : List ℕ) (room n : ℕ) → GivenBy (tmcs fs) s room n → n * 2 ≤ length (joined fs) - 2
given-few fs s room n g = omega (arith, few fs g.taken, g.count)

module _ (s : List ℕ) (room : ℕ) where
  pub most_words_lem : length (read_words s room) ≤ most_words
  most_words_lem = by (read_block s room) refl
    where
      by : (r : Result Reading Refusal) → read_block s room ≡ r → length (read_words s room) ≤ most_words
      by (Ok (Whole n)) e =
          omega (arith, count_told s room, ap count_in e, given-few (figs (payload s)) s room n (whole_each s room n e), figs_short s (whole_walk s room n e).0)
      by (Ok (Stopped fib n)) e =
          let stop = stopped_by s room fib n e in
          omega (arith, count_told s room, ap count_in e, given-few stop.before s room fib.count stop.given, stopped_short s room fib n e)
      by (Err n) e = omega (arith, count_told s room, ap count_in e)

  pub enough_room : (fib : Fib) → most_words ≤ room → read_block s room ≡ Ok (Stopped fib SmallBuffer) → ⊥
  enough_room fib enough e = by (stopped_why s room fib SmallBuffer e)
    where
      by : (let stop = stopped_by s room fib SmallBuffer e in Why stop.fig (room - fib.count) SmallBuffer) → ⊥
      by (inl h) = absurd (cc h.0)
      by (inr (inl h)) = absurd (cc)
      by (inr (inr h)) =
          let stop = stopped_by s room fib SmallBuffer e in
          omega (
            arith,
            h.1,
            given-few stop.before s room fib.count stop.given,
            two_bytes (fig_of (fields stop.fig)).d1 (drop 2 stop.fig),
            length-drop 2 stop.fig,
            stopped_short s room fib SmallBuffer e,
          )
