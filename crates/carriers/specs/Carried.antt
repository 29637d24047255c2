-- The words that a frame carries (document 01, "The listing program").
use Rattle.std.specs.Prelude.{ℕ, cond, List, [], ◌∷◌, take, drop, eqb, Option, Some, None, Result, Ok, Err}
use Rattle.refusal.specs.declared.Refusal.{Refusal}
use Rattle.refusal.specs.declared.Refusal.TheVariants.{OtherKind}
use Rattle.bits.specs.Fields.{flat, words}
use Rattle.bits.specs.Outcome.{mapped}
use Rattle.rds.specs.declared.Run.{Run}
use Rattle.rds.specs.Repeat.{received}
use Rattle.fig.specs.declared.Reading as fig
use Rattle.fig.specs.Format.{header_length}
use Rattle.fig.specs.Read.{read_fig}
use Rattle.fig.specs.Read as fig_read
use Rattle.drm.specs.declared.Reading as drm
use Rattle.drm.specs.Format.{word_width}
use Rattle.crc.specs.Block.{payload}
use Rattle.drm.specs.Payload.{words_at}
use Rattle.drm.specs.Read.{read_unit}
use Rattle.drm.specs.Read as drm_read
use Rattle.carriers.specs.declared.Kind.{Kind}
use Rattle.carriers.specs.declared.Kind.TheVariants.{Rds, Fig, Drm}

-- room for the words of any carrier
abbrev pub most_words : ℕ
most_words = 27

-- kind 1 is an RDS group, 2 a FIG, 3 a DRM unit; another is refusal 2
unfoldable pub kind_by : ℕ → Result Kind Refusal
kind_by kind = cond (eqb kind 1) (Ok Rds) (cond (eqb kind 2) (Ok Fig) (cond (eqb kind 3) (Ok Drm) (Err OtherKind)))

-- what a frame carries is words of 37 bits in order, or a refusal: an RDS group gives the word that the repeat rule makes valid
unfoldable pub by_rds : Result (Option ℕ) Refusal → Result (List ℕ) Refusal
by_rds (Ok None) = Ok []
by_rds (Ok (Some w)) = Ok (w ∷ [])
by_rds (Err refusal) = Err refusal

-- a FIG gives its words of 37 bits (D1 = 0), and none of 16 bits
unfoldable pub by_fig : Result fig.Reading Refusal → List ℕ → Result (List ℕ) Refusal
by_fig (Ok r) body = Ok (cond (eqb r.fig.d1 0) (words 37 r.count (flat 8 (drop header_length body))) [])
by_fig (Err refusal) body = Err refusal

-- a DRM data unit gives its user words
unfoldable pub by_unit : Result drm.Reading Refusal → List ℕ → Result (List ℕ) Refusal
by_unit (Ok r) body = Ok (words word_width r.count (drop (words_at (flat 8 (payload body))) (flat 8 (payload body))))
by_unit (Err refusal) body = Err refusal

-- by the frame's kind
unfoldable pub carried_as : Result Kind Refusal → Run → List ℕ → Result (List ℕ) Refusal
carried_as (Ok Rds) run body = by_rds (received run body).answer
carried_as (Ok Fig) run body = by_fig (read_fig body most_words) body
carried_as (Ok Drm) run body = by_unit (read_unit body most_words) body
carried_as (Err refusal) run body = Err refusal

abbrev pub carried_by : ℕ → Run → List ℕ → Result (List ℕ) Refusal
carried_by kind run body = carried_as (kind_by kind) run body

-- the repeat rule's run goes on over all RDS frames, and others leave it
unfoldable pub run_as : Result Kind Refusal → Run → List ℕ → Run
run_as (Ok Rds) run body = (received run body).run
run_as (Ok Fig) run body = run
run_as (Ok Drm) run body = run
run_as (Err refusal) run body = run

abbrev pub run_after : ℕ → Run → List ℕ → Run
run_after kind run body = run_as (kind_by kind) run body

-- how many words these are: one, if there is a valid one; those of a FIG, if they have 37 bits
abbrev pub rds_count : Result (Option ℕ) Refusal → Result ℕ Refusal
rds_count (Ok None) = Ok 0
rds_count (Ok (Some w)) = Ok 1
rds_count (Err refusal) = Err refusal

abbrev pub fig_count : fig.Reading → ℕ
fig_count r = cond (eqb r.fig.d1 0) r.count 0

-- the lent words afterwards: a valid word stands in the first cell
unfoldable pub rds_after : Result (Option ℕ) Refusal → List ℕ → List ℕ
rds_after (Ok None) out = out
rds_after (Ok (Some w)) out = w ∷ drop 1 out
rds_after (Err refusal) out = out

-- the words of a FIG and of a unit stand where their readers put them; words of 16 bits too, though none of them counts
unfoldable pub words_as : Result Kind Refusal → Run → List ℕ → List ℕ → List ℕ
words_as (Ok Rds) run body out = rds_after (received run body).answer out
words_as (Ok Fig) run body out = fig_read.words_after (read_fig body most_words) (drop header_length body) out
words_as (Ok Drm) run body out = drm_read.words_after (read_unit body most_words) (flat 8 (payload body)) out
words_as (Err refusal) run body out = out

abbrev pub words_after : ℕ → Run → List ℕ → List ℕ → List ℕ
words_after kind run body out = words_as (kind_by kind) run body out

-- the code's answer, with the buffer beside it
abbrev pub carried_in : Result ℕ Refusal → List ℕ → Result (List ℕ) Refusal
carried_in r out = mapped (λ n. take n out) r
