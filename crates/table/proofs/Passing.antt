-- A pass over the records of a table, by its iterator: what is left after k records, and one record more.
use Rattle.std.proofs.Common.{◌≡◌, sym, ap, ◌∙◌, ℕ, ◌+◌, ◌*◌, ◌/◌, ◌<◌, List, ◌++◌, length, take, drop, arith, length-append, length-drop}
use lib.Seq.{drop-drop, take_at, drop_at}
use Rattle.record.specs.Layout.{record_size}
use Rattle.lent.proofs.Passes.{nth}

module _ (t x rest : List ℕ) (k : ℕ) (e : drop (k * record_size) t ≡ x ++ rest) (long : length x ≡ record_size) where
  -- it is record k
  pub passed_is : x ≡ nth t k
  passed_is = sym (ap (take record_size) e ∙ take_at x rest record_size long)

  pub rest_is : rest ≡ drop ((k + 1) * record_size) t
  rest_is =
      let more : k * record_size + record_size ≡ (k + 1) * record_size = omega arith in
      sym (drop_at x rest record_size long) ∙ ap (drop record_size) (sym e) ∙ drop-drop record_size (k * record_size) t ∙ ap (λ n. drop n t) more

  pub within : k < length t / record_size
  within = omega (arith, sym (length-drop (k * record_size) t) ∙ ap length e ∙ length-append x rest)

-- where less is left than a record, all are passed
pub passed_all : (t rest : List ℕ) (k : ℕ) → rest ≡ drop (k * record_size) t → length rest < record_size → length t / record_size < k + 1
passed_all t rest k e short = omega (arith, ap length e, length-drop (k * record_size) t)
