-- What an answer for a block tells of the checks of the whole block and of the walk.
use Prim.Native.Nat.{ℕ}
use mathlib.Core.Path.{◌≡◌, refl, sym, ap, ap₂, ◌∙◌}
use mathlib.Core.List.{List}
use lib.ListN.{length}
use Rattle.std.specs.Prelude.{Result, Ok, Err, ⊤}
use Rattle.refusal.specs.declared.Refusal.{Refusal}
use Rattle.fib.specs.declared.Fib.{Fib}
use Rattle.fib.specs.declared.Reading.TheVariants.{Whole, Stopped}
use Rattle.fib.specs.Walk.{End, all, refused_at, Walk}
use Rattle.fib.specs.Read.{check_block, block_walk, ending_by, ending, read_block, read_words}
use Rattle.fib.specs.Answers.{count_in}
use Rattle.fib.proofs.Blocks.{block_read, block_words, block_refused, no_words}

-- at the end of a walk that gave k words
module _ (k : ℕ) where
  ended_whole : (n : ℕ) (end : End) → ending_by k end ≡ Whole n → (n ≡ k) × (end ≡ all)
  unfolding ending_by
  ended_whole n all e = (cc, refl)
  ended_whole n (refused_at m at) e = absurd (cc)

  ended_stopped : (fib : Fib) (n : Refusal) (end : End) → ending_by k end ≡ Stopped fib n → (fib.count ≡ k) × (end ≡ refused_at n fib.at)
  unfolding ending_by
  ended_stopped fib n all e = absurd (cc)
  ended_stopped fib n (refused_at m at) e =
      let there : Fib = record { count = k; at = at } in
      let same : there ≡ fib = cc in
      let number : m ≡ n = cc in
      (ap (λ (x : Fib). x.count) (sym same), ap₂ refused_at number (ap (λ (x : Fib). x.at) same))

  ended-counted : (end : End) → count_in (Ok (ending_by k end)) ≡ k
  unfolding ending_by
  ended-counted all = refl
  ended-counted (refused_at m at) = refl

module _ (s : List ℕ) (room : ℕ) where
  abbrev walk : Walk
  walk = block_walk s room

  abbrev count : ℕ
  count = length walk.found

  -- the checks pass, and the answer is that of the walk; or they do not, and it is their refusal
  by_checks : {P : Type 0} → (check_block s ≡ Ok tt → read_block s room ≡ Ok (ending walk) → P) → ((x : Refusal) → check_block s ≡ Err x → read_block s room ≡ Err x → P) → P
  by_checks {P = P} passes refuses = by (check_block s) refl
    where
      by : (r : Result ⊤ Refusal) → check_block s ≡ r → P
      by (Ok u) h = passes h (block_read s room h)
      by (Err x) h = refuses x h (block_refused s room x h)

  pub whole_walk : (n : ℕ) → read_block s room ≡ Ok (Whole n) → (check_block s ≡ Ok tt) × (n ≡ count) × (walk.end ≡ all)
  whole_walk n e =
      by_checks
      (λ z w. let same : ending walk ≡ Whole n = cc in let t = ended_whole count n walk.end same in (z, t.0, t.1))
      (λ x h r. absurd (cc))

  pub stopped_walk : (fib : Fib) (n : Refusal) → read_block s room ≡ Ok (Stopped fib n) → (check_block s ≡ Ok tt) × (fib.count ≡ count) × (walk.end ≡ refused_at n fib.at)
  stopped_walk fib n e =
      by_checks
      (λ z w. let same : ending walk ≡ Stopped fib n = cc in let t = ended_stopped count fib n walk.end same in (z, t.0, t.1))
      (λ x h r. absurd (cc))

  pub refused_checks : (n : Refusal) → read_block s room ≡ Err n → check_block s ≡ Err n
  refused_checks n e =
      by_checks
      (λ z w. absurd (cc))
      (λ x h r. cc)

  -- the number of words that it tells is theirs
  pub count_told : count_in (read_block s room) ≡ length (read_words s room)
  count_told =
      by_checks
      (λ z w. ap count_in w ∙ ended-counted count walk.end ∙ ap length (sym (block_words s room z)))
      (λ x h r. ap count_in r ∙ ap length (sym (no_words s room x h)))
