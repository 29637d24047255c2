-- The repeat rule (document 01, "RDS"; ISO 14819-1, clause 7.3): a run of equal words among the 8A groups counts as one valid
-- word, at its second member.
use Rattle.std.specs.Prelude.{ℕ, Bool, true, cond, List, eqb, ltb, Result, Ok, Err, Option, Some, None}
use Rattle.refusal.specs.declared.Refusal.{Refusal}
use Rattle.refusal.specs.declared.Refusal.TheVariants.{Unfit}
use Rattle.rds.specs.declared.Group.{Group}
use Rattle.rds.specs.declared.Run.{Run}
use Rattle.rds.specs.declared.Run.TheVariants.{Empty, One, More}
use Rattle.rds.specs.declared.Step.{Step}
use Rattle.rds.specs.Format.{word_limit}
use Rattle.rds.specs.Read.{read_group}

-- a run of one, which gives nothing yet
abbrev pub begun : ℕ → Step
begun w = record { run = One w; answer = Ok None }

-- the run after one more word: an equal word joins it, another begins a run of its own
unfoldable pub next_run : Run → ℕ → Run
next_run Empty w = One w
next_run (One v) w = cond (eqb v w) (More w) (One w)
next_run (More v) w = cond (eqb v w) (More w) (One w)

-- a word is valid as the second member of its run
unfoldable pub answer_to : Run → ℕ → Result (Option ℕ) Refusal
answer_to Empty w = Ok None
answer_to (One v) w = cond (eqb v w) (Ok (Some w)) (Ok None)
answer_to (More v) w = Ok None

-- one word among the 8A groups
abbrev pub heard : Run → ℕ → Step
heard r w = record { run = next_run r w; answer = answer_to r w }

-- one group by its reading; a refused one leaves the run as it is
unfoldable pub after_reading : Run → Result Group Refusal → Step
after_reading r (Ok g) = heard r g.word
after_reading r (Err refusal) = record { run = r; answer = Err refusal }

-- a run that groups can give: its word has 37 bits
unfoldable pub run_fits : Run → Bool
run_fits Empty = true
run_fits (One w) = ltb w word_limit
run_fits (More w) = ltb w word_limit

-- one group received; another run is refused (9) before all else, and kept
unfoldable pub received : Run → List ℕ → Step
received r s = cond (run_fits r) (after_reading r (read_group s)) (record { run = r; answer = Err Unfit })

-- what the answer tells: whether there is a valid word (1, else 0), and that word, 0 where there is none
abbrev pub valid_in : Result (Option ℕ) Refusal → ℕ
valid_in (Ok None) = 0
valid_in (Ok (Some w)) = 1
valid_in (Err refusal) = 0

abbrev pub valid_word : Result (Option ℕ) Refusal → ℕ
valid_word (Ok None) = 0
valid_word (Ok (Some w)) = w
valid_word (Err refusal) = 0
