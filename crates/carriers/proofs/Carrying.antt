-- The words that a reading leaves in the buffer are those that the frame carries.
use Prim.Native.Nat.{ℕ, ◌≤◌}
use native.Mathlib.Omega.{arith}
use mathlib.Core.Path.{◌≡◌, refl, ap}
use mathlib.Core.List.{List, ◌++◌}
use lib.ListN.{length, drop, length-append}
use lib.Seq.{take_at}
use lib.Dec.{eqb}
use Rattle.std.specs.Prelude.{Result, Ok, Err, MatchResult, IsOkAnd, Option, Some, None}
use Rattle.refusal.specs.declared.Refusal.{Refusal}
use Rattle.refusal.specs.Number.{count_in}
use Rattle.bits.specs.Fields.{flat, words}
use Rattle.bits.specs.Outcome.{mapped}
use Rattle.bits.proofs.Choice.{either}
use Rattle.bits.proofs.Fields.{length-words}
use Rattle.fig.specs.declared.Reading as fig
use Rattle.fig.specs.Format as fig_format
use Rattle.fig.specs.Read as fig_read
use Rattle.drm.specs.declared.Reading as drm
use Rattle.drm.specs.Format as drm_format
use Rattle.crc.specs.Block.{payload}
use Rattle.drm.specs.Payload.{words_at}
use Rattle.drm.specs.Read as drm_read
use Rattle.carriers.specs.Carried.{by_rds, by_fig, by_unit, carried_in, rds_count, fig_count, rds_after}

-- what `map` gives, by the function of the value
pub mapped_by : {X Y E : Type 0} (f : X → Y) (r : Result X E) (s : Result Y E) → MatchResult r (λ x. IsOkAnd s (λ y. y ≡ f x)) (λ e. s ≡ Err e) → s ≡ mapped f r
mapped_by f (Ok x) (Ok y) h = ap (λ z. Ok z) h
mapped_by f (Ok x) (Err e) h = absurd h
mapped_by f (Err e) s h = h

-- words in the first cells, as many as they are
cells : (ws out : List ℕ) (n : ℕ) → length ws ≡ n → n ≤ length (ws ++ drop n out)
cells ws out n h = omega (arith, length-append ws (drop n out))

-- a valid word
pub rds_carried : (answer : Result (Option ℕ) Refusal) (out : List ℕ) → carried_in (rds_count answer) (rds_after answer out) ≡ by_rds answer
unfolding by_rds rds_after
rds_carried (Ok None) out = refl
rds_carried (Ok (Some w)) out = refl
rds_carried (Err refusal) out = refl

pub rds_fits : (answer : Result (Option ℕ) Refusal) → count_in (rds_count answer) ≤ 27
rds_fits (Ok None) = omega arith
rds_fits (Ok (Some w)) = omega arith
rds_fits (Err refusal) = omega arith

-- the words of a FIG, none where they have 16 bits
pub fig_carried : (x : Result fig.Reading Refusal) (body out : List ℕ) → carried_in (mapped fig_count x) (fig_read.words_after x (drop 2 body) out) ≡ by_fig x body
unfolding by_fig fig_read.words_after fig_format.word_width
fig_carried (Ok r) body out =
    let l = flat 8 (drop 2 body) in
    let n = r.count in
    either (eqb r.fig.d1 0)
    (λ t.
    rw t (ap (λ (ws : List ℕ). Ok ws) (take_at (words 37 n l) (drop n out) n (length-words 37 n l))))
    (λ t. rw t)
fig_carried (Err refusal) body out = refl

-- they are in the buffer
pub fig_fits : (x : Result fig.Reading Refusal) (body out : List ℕ) → length (fig_read.words_after x (drop 2 body) out) ≡ 27 → count_in (mapped fig_count x) ≤ 27
unfolding fig_read.words_after
fig_fits (Ok r) body out h =
    let ws = words (fig_format.word_width r.fig.d1) r.count (flat 8 (drop 2 body)) in
    let within = cells ws out r.count (length-words (fig_format.word_width r.fig.d1) r.count (flat 8 (drop 2 body))) in
    either (eqb r.fig.d1 0) (λ t. rw t (omega arith)) (λ t. rw t (omega arith))
fig_fits (Err refusal) body out h = omega arith

-- the words of a unit
pub unit_carried : (x : Result drm.Reading Refusal) (body out : List ℕ) → carried_in (mapped (λ r. r.count) x) (drm_read.words_after x (flat 8 (payload body)) out) ≡ by_unit x body
unfolding by_unit drm_read.words_after
unit_carried (Ok r) body out =
    let l = drop (words_at (flat 8 (payload body))) (flat 8 (payload body)) in
    ap (λ (ws : List ℕ). Ok ws) (take_at (words drm_format.word_width r.count l) (drop r.count out) r.count (length-words drm_format.word_width r.count l))
unit_carried (Err refusal) body out = refl

pub unit_fits : (x : Result drm.Reading Refusal) (body out : List ℕ) → length (drm_read.words_after x (flat 8 (payload body)) out) ≡ 27 → count_in (mapped (λ r. r.count) x) ≤ 27
unfolding drm_read.words_after
unit_fits (Ok r) body out h =
    let l = drop (words_at (flat 8 (payload body))) (flat 8 (payload body)) in
    let within = cells (words drm_format.word_width r.count l) out r.count (length-words drm_format.word_width r.count l) in
    omega arith
unit_fits (Err refusal) body out h = omega arith
