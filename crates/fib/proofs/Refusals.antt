-- The refusals: a block is refused by 1 or 4, and leaves the buffers; one of its FIGs 5/1 by 1, 3 or 15, and then by 1 only
-- for the length of its data, and by 15 only for want of room.
use Prim.Native.Nat.{ℕ, ◌+◌, ◌-◌, ◌≤◌}
use native.Mathlib.Omega.{arith}
use mathlib.Core.Path.{◌≡◌, refl, sym, ap, ap₂, subst, ◌∙◌}
use mathlib.Core.Logic.{◌⊎◌, inl, inr}
use mathlib.Core.Bool.{Bool, true, ◌&&◌}
use mathlib.Core.List.{List}
use lib.ListN.{length, drop}
use lib.Dec.{leb, eqb}
use borrow.Author.Tests.{leb-false, le-leb, eq-eqb}
use Rattle.bits.specs.Bits.{all_zero}
use Rattle.bits.specs.Lists.{joined}
use Rattle.std.specs.Prelude.{Result, Ok, Err, ⊤, IfErr}
use Rattle.refusal.specs.declared.Refusal.{Refusal}
use Rattle.refusal.specs.declared.Refusal.TheVariants.{WrongLength, Reserved, WrongCheckWord, SmallBuffer}
use Rattle.refusal.specs.Checks.{must}
use Rattle.bits.proofs.Choice.{and_left, and_right, chosen}
use Rattle.refusal.proofs.Checks.{by_check}
use Rattle.crc.specs.Block.{payload, is_checked}
use Rattle.fig.specs.Format.{type_in, following_in, d2_in, extension_in}
use Rattle.fig.specs.Read.{fields, padding, length_fits, check_fields, check_head, check_data, read_data, read_fig}
use Rattle.fig.proofs.Answers.{by_refusal}
use Rattle.fib.specs.declared.Fib.{Fib}
use Rattle.fib.specs.declared.Reading.TheVariants.{Stopped}
use Rattle.fib.specs.Figs.{ended, rest}
use Rattle.fib.specs.Structure.{IsFig, AllFigs}
use Rattle.fib.specs.Walk.{is_tmc}
use Rattle.fib.specs.Read.{check_block, read_block, read_words, origin_of, words_after, origins_after}
use Rattle.fib.specs.Each.{StoppedBy}
use Rattle.fib.specs.Refusals.{word_bits, word_count, Why}
use Rattle.fib.proofs.Structure.{structure}
use Rattle.fib.proofs.Blocks.{cells_kept}
use Rattle.fib.proofs.Within.{fig_among, joined_among, figs_short}
use Rattle.fib.proofs.Answers.{stopped_walk, refused_checks}
use Rattle.fib.proofs.Each.{stopped_by}

module _ (f : List ℕ) (room : ℕ) where
  -- where there is a refusal, it is for one of these reasons
  abbrev IfAny : Result ⊤ Refusal → Type 0
  IfAny r = IfErr r (Why f room)

  data_why : IfAny (check_data (word_bits f) (drop 2 f) room)
  unfolding check_data
  data_why =
      by_check IfAny (length_fits (word_bits f) (length (drop 2 f))) WrongLength _ (λ t. inl (refl, t))
      (by_check IfAny (all_zero (padding (word_bits f) (drop 2 f))) Reserved _ (λ t. inr (inl refl))
      (by_check IfAny (leb (word_count f) room) SmallBuffer (Ok tt) (λ t. inr (inr (refl, leb-false (word_count f) room t))) tt))

  -- length, type, count and extension pass
  module _ (t : is_tmc f ≡ true) (fig : IsFig f) (short : length f ≤ 30) where
    head_checks : check_head f ≡ must (eqb (d2_in (fields f)) 0) Reserved (Ok tt)
    unfolding is_tmc check_head check_fields
    head_checks =
        let h = fields f in
        let named = and_right (leb 2 (length f)) (eqb (type_in h) 5 && eqb (extension_in h) 1) t in
        let counted : following_in h ≡ length f - 1 = omega (arith, fig.counts) in
        chosen _ _ _ (ap₂ (λ (a b : Bool). a && b) (and_left (leb 2 (length f)) _ t) (le-leb (length f) 30 short))
        ∙ chosen _ _ _ (and_left (eqb (type_in h) 5) (eqb (extension_in h) 1) named)
        ∙ chosen _ _ _ (eq-eqb (following_in h) (length f - 1) counted)
        ∙ chosen _ _ _ (and_right (eqb (type_in h) 5) (eqb (extension_in h) 1) named)

    head_why : IfAny (check_head f)
    head_why = subst IfAny (sym head_checks) (by_check IfAny (eqb (d2_in (fields f)) 0) Reserved (Ok tt) (λ t. inr (inl refl)) tt)

    fig_why : (n : Refusal) → read_fig f room ≡ Err n → Why f room n
    unfolding read_fig read_data
    fig_why n e =
        by_refusal (Why f room) (check_head f) _ n head_why
        (λ _ _. by_refusal (Why f room) (check_data (word_bits f) (drop 2 f) room) _ n data_why (λ _ _ k. absurd (cc)))
        e

-- the checks of a whole block
abbrev Checked : Result ⊤ Refusal → Type 0
Checked r = IfErr r (λ n. (n ≡ WrongLength) ⊎ (n ≡ WrongCheckWord))

block_checks : (s : List ℕ) → Checked (check_block s)
unfolding check_block
block_checks s =
    by_check Checked (eqb (length s) 32) WrongLength _ (λ t. inl refl)
    (by_check Checked (is_checked s) WrongCheckWord _ (λ t. inr refl)
    (by_check Checked (ended (rest (payload s))) WrongLength (Ok tt) (λ t. inl refl) tt))

module _ (s : List ℕ) (room : ℕ) where
  module _ (fib : Fib) (n : Refusal) (e : read_block s room ≡ Ok (Stopped fib n)) where
    abbrev stop : StoppedBy s room fib n
    stop = stopped_by s room fib n e

    -- the FIG at which the reading stopped ends within the data field
    pub stopped_short : length (joined stop.before) + length stop.fig ≤ 30
    stopped_short = omega (arith, figs_short s (stopped_walk s room fib n e).0, ap (λ (fs : List (List ℕ)). length (joined fs)) stop.all, joined_among stop.before stop.fig stop.behind)

    pub stopped_why : Why stop.fig (room - fib.count) n
    stopped_why =
        let is-fig = fig_among stop.before stop.fig stop.behind (subst AllFigs stop.all (structure (payload s)).each) in
        fig_why stop.fig (room - fib.count) stop.tmc is-fig (omega (arith, stopped_short)) n stop.refused

    pub stopped_numbers : (n ≡ WrongLength) ⊎ ((n ≡ Reserved) ⊎ (n ≡ SmallBuffer))
    stopped_numbers = by stopped_why
      where
        by : Why stop.fig (room - fib.count) n → (n ≡ WrongLength) ⊎ ((n ≡ Reserved) ⊎ (n ≡ SmallBuffer))
        by (inl h) = inl h.0
        by (inr (inl h)) = inr (inl h)
        by (inr (inr h)) = inr (inr h.0)

  module _ (n : Refusal) (e : read_block s room ≡ Err n) where
    pub refused_numbers : (n ≡ WrongLength) ⊎ (n ≡ WrongCheckWord)
    refused_numbers = subst Checked (refused_checks s room n e) (block_checks s)

    pub refused-keeps : (out : List ℕ) → (words_after (read_words s room) out ≡ out) × (origins_after (read_words s room) out ≡ out)
    refused-keeps out =
        let kept = cells_kept s room n (refused_checks s room n e) in
        (kept (λ c. c.word) out, kept (λ c. origin_of c.fig) out)
