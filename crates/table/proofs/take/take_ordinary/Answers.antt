-- Both steps in one pass; then the place is found, and the record is stored.
use Prim.Native.Nat.{ℕ, ◌/◌, ◌%◌, ◌<◌}
use native.Mathlib.Omega.{arith}
use mathlib.Core.Path.{◌≡◌, sym, ap, ap₂, subst, ◌∙◌}
use mathlib.Core.Bool.{Bool, false, cond, not, ◌&&◌}
use mathlib.Core.List.{List}
use lib.ListN.{length}
use Rattle.std.specs.Prelude.{Option, Some, None, Result, Ok, is_none, unwrap_or}
use Rattle.refusal.specs.Checks.{must}
use Rattle.refusal.specs.declared.Refusal.{Refusal}
use Rattle.refusal.specs.declared.Refusal.TheVariants.{NoRoom}
use Rattle.record.specs.declared.Freed as freed
use Rattle.record.specs.Layout.{record_size, free_record, is_free}
use Rattle.record.specs.Matching.{matching}
use Rattle.record_report.specs.Made.{record_of}
use Rattle.lent.specs.Records.{records}
use Rattle.table.specs.declared.WhenFull.{WhenFull}
use Rattle.table.specs.declared.Answer.{Answer}
use Rattle.table.specs.declared.Answer.TheVariants.{Stored, Dropped}
use Rattle.table.specs.Records.{lowest_free, soonest, stored}
use Rattle.table.specs.Steps.{expired_in, after_matching, matched_in, free_in, no_room, place_in, after_storing}
use Rattle.table.specs.Take.{keeps, storing_answer}
use Rattle.table.proofs.Counts.{found_within}
use Rattle.table.proofs.Sweeps.{length-records}
use Rattle.table.proofs.Freeing.{length_both, whole_both, none_gone}
use Rattle.table.proofs.Matching.{never_free}
use Rattle.table.proofs.take.take_ordinary.Goals as goal

-- where the pass leaves no record free, and where it leaves one
module _ (m : ℕ) (q : List ℕ → Bool) (never : q free_record ≡ false) (t u r : List ℕ) (whole : length t % record_size ≡ 0) (full : WhenFull) (after : u ≡ after_matching m q t) where
  Way : Result Answer Refusal → List ℕ → Type 0
  Way s v = (s ≡ must (not (no_room m q t && keeps full)) NoRoom (Ok (storing_answer m q t))) × (v ≡ cond (no_room m q t && keeps full) t (after_storing m q r t))

  free_is : (x : Option ℕ) → x ≡ lowest_free u → free_in m q t ≡ x
  unfolding free_in
  free_is x e = sym (e ∙ ap lowest_free after)

  full-way : None ≡ lowest_free u → Way (must (not (keeps full)) NoRoom (Ok (Dropped (soonest (records u))))) (cond (keeps full) u (stored u (soonest (records u)) r))
  unfolding Way storing_answer place_in after_storing
  full-way e =
      let none = free_is None e in
      let soon : soonest (records u) ≡ soonest (records (after_matching m q t)) = ap (λ (v : List ℕ). soonest (records v)) after in (
        ap (λ (n : ℕ). must (not (keeps full)) NoRoom (Ok (Dropped n))) soon
            ∙ sym (ap (λ (x : Option ℕ). must (not (is_none x && keeps full)) NoRoom (Ok (cond (is_none x) (Dropped (unwrap_or x (soonest (records (after_matching m q t))))) (Stored (expired_in m t) (matched_in m q t) (unwrap_or x (soonest (records (after_matching m q t)))))))) none),
        ap₂ (λ (v w : List ℕ). cond (keeps full) v w) (after ∙ none_gone m q never t whole (ap is_none none)) (ap₂ (λ (v : List ℕ) (n : ℕ). stored v n r) after soon)
            ∙ sym (ap (λ (x : Option ℕ). cond (is_none x && keeps full) t (stored (after_matching m q t) (unwrap_or x (soonest (records (after_matching m q t)))) r)) none),
      )

  free-way : (place : ℕ) → Some place ≡ lowest_free u → Way (Ok (Stored (expired_in m t) (matched_in m q t) place)) (stored u place r)
  unfolding Way storing_answer place_in after_storing
  free-way place e =
      let one = free_is (Some place) e in (
        sym (ap (λ (x : Option ℕ). must (not (is_none x && keeps full)) NoRoom (Ok (cond (is_none x) (Dropped (unwrap_or x (soonest (records (after_matching m q t))))) (Stored (expired_in m t) (matched_in m q t) (unwrap_or x (soonest (records (after_matching m q t)))))))) one),
        ap (λ (v : List ℕ). stored v place r) after
            ∙ sym (ap (λ (x : Option ℕ). cond (is_none x && keeps full) t (stored (after_matching m q t) (unwrap_or x (soonest (records (after_matching m q t)))) r)) one),
      )

pub take_full-requires : goal.take_full-requires
take_full-requires c =
    let a = c.args in
    let t = a.t.now in
    let same = ap length c.sweep_gone-gone.ensures.t_after ∙ length_both a.minute.0 (matching a.key) (never_free a.key) t c.requires.0 in
    (ap (λ (n : ℕ). n % record_size) same ∙ c.requires.0, subst (λ (n : ℕ). 0 < n / record_size) (sym same) c.requires.1, c.requires.2)

pub returns-in-None : goal.returns-in-None
unfolding Way
returns-in-None c =
    let a = c.args in
    let f = c.take_full.ensures in
    let way = full-way a.minute.0 (matching a.key) (never_free a.key) a.t.now _ (record_of a.kept a.key.classes.0) c.requires.0 a.full c.sweep_gone-gone.ensures.t_after (sym c.in-None.is ∙ c.find_free.ensures) in
    record { value = f.value ∙ way.0; t_after = f.t_after ∙ way.1 }

pub put_at-requires : goal.put_at-requires
unfolding lowest_free
put_at-requires c =
    let a = c.args in
    let u = c.sweep_gone-gone.new.t in (
      ap (λ (u : List ℕ). length u % record_size) c.sweep_gone-gone.ensures.t_after ∙ whole_both a.minute.0 (matching a.key) (never_free a.key) a.t.now c.requires.0,
      omega (arith, found_within is_free (records u) c.in-Some.place (sym c.in-Some.is ∙ c.find_free.ensures), length-records u),
      c.requires.2,
    )

pub returns-in-Some : goal.returns-in-Some
unfolding Way
returns-in-Some c =
    let a = c.args in
    let way = free-way a.minute.0 (matching a.key) (never_free a.key) a.t.now _ (record_of a.kept a.key.classes.0) c.requires.0 a.full c.sweep_gone-gone.ensures.t_after c.in-Some.place (sym c.in-Some.is ∙ c.find_free.ensures) in
    record {
      value = ap (λ (f : freed.Freed). Ok (Stored f.expired f.matched c.in-Some.place)) c.sweep_gone-gone.ensures.value ∙ way.0;
      t_after = c.put_at.ensures ∙ way.1;
    }
