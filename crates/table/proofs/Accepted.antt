-- A take that nothing refuses, by the kind of its event.
use Prim.Native.Nat.{ℕ, ◌/◌, ◌%◌, ◌<◌}
use native.Mathlib.Omega.{arith}
use mathlib.Core.Path.{◌≡◌, refl, sym, ap, subst, ◌∙◌}
use mathlib.Core.Bool.{Bool, true, false, not, ◌||◌}
use Rattle.std.specs.Prelude.{Option, Some, None, unwrap_or, Result, Ok, Err, is_ok}
use Rattle.refusal.specs.declared.Refusal.{Refusal}
use mathlib.Core.List.{List}
use lib.IntN.{ℤ}
use lib.ListN.{length}
use borrow.Author.Tests.{not-true}
use Rattle.bits.proofs.Choice.{and_left, and_right, chosen, passed_over}
use Rattle.record.specs.Layout.{record_size, free_record, is_free}
use Rattle.record.specs.Matching.{matching}
use Rattle.record.specs.Gone.{expired, either}
use Rattle.record_report.specs.Made.{record_of}
use Rattle.record_report.proofs.MadeFields.{length_made}
use Rattle.lent.specs.Records.{records}
use Rattle.lent.specs.declared.catalogue.Kind.{Kind}
use Rattle.lent.specs.declared.catalogue.Kind.TheVariants.{Unknown, Ordinary, Cancelling, Null}
use Rattle.lent.specs.Catalogue.{classed}
use Rattle.lent.proofs.Lents.{table_some, lent_table, lent_whole}
use Rattle.classes.specs.Classes.{set_for}
use Rattle.classes.specs.Keys.{key_of}
use Rattle.checks.specs.declared.Arrival.{Arrival}
use Rattle.checks.specs.Events.{is_ordinary, kind_for}
use Rattle.checks.proofs.Checked.{Checked, checked}
use Rattle.table.specs.declared.WhenFull.{WhenFull}
use Rattle.table.specs.declared.Answer.{Answer}
use Rattle.table.specs.Records.{soonest, lowest_free}
use Rattle.table.specs.Steps.{after_matching, free_in, place_in, after_storing}
use Rattle.table.specs.Take.{matches, matches_of, kept_of, record_for, taken_table, take_answer, take_table}
use Rattle.table.proofs.Counts.{clash, found_within}
use Rattle.table.proofs.Sweeps.{length-records}
use Rattle.table.proofs.Soonest.{soonest_ends}
use Rattle.table.proofs.Freeing.{length_both, whole_both}
use Rattle.table.proofs.Takes.{Accepted, passed, refused-take, accepted_take}

-- a test that holds of used records only
abbrev pub OnlyUsed : (List ℕ → Bool) → Type 0
OnlyUsed p = (r : List ℕ) → p r ≡ true → is_free r ≡ false

pub expired-used : (minute : ℕ) → OnlyUsed (expired minute)
unfolding expired
expired-used minute r h = not-true (is_free r) (and_left (not (is_free r)) _ h)

pub matches-used : (c : List ℕ) (a : Arrival) → OnlyUsed (matches_of c a)
unfolding matches matching
matches-used c a r h = not-true (is_free r) (and_left (not (is_free r)) _ (and_right (classed (kind_for c a.report)) (matching (key_of c a.service a.report) r) h))

pub either-used : (p q : List ℕ → Bool) → OnlyUsed p → OnlyUsed q → OnlyUsed (either p q)
either-used p q f g r h = by_first (p r) refl
  where
    second : (a b : Bool) → a ≡ false → a || b ≡ true → b ≡ true
    second true b e k = clash refl e
    second false b e k = k

    by_first : (b : Bool) → p r ≡ b → is_free r ≡ false
    by_first true e = f r e
    by_first false e = g r (second (p r) (q r) e h)

-- so of no free record
pub used_never : (q : List ℕ → Bool) → OnlyUsed q → q free_record ≡ false
used_never q only = by_test (q free_record) refl
  where
    by_test : (b : Bool) → q free_record ≡ b → q free_record ≡ false
    by_test true e = clash refl (only free_record e)
    by_test false e = e

pub matches_never : (c : List ℕ) (a : Arrival) → matches_of c a free_record ≡ false
matches_never c a = used_never (matches_of c a) (matches-used c a)

-- an ordinary event by the test
pub ordinary_is : (k : Kind) → is_ordinary k ≡ true → k ≡ Ordinary
ordinary_is Ordinary e = refl
ordinary_is Unknown e = clash e refl
ordinary_is Cancelling e = clash e refl
ordinary_is Null e = clash e refl

-- the record that is stored
module _ (c l : List ℕ) (a : Arrival) (lto : ℤ) where
  pub made_used : is_free (record_for c l a lto) ≡ false
  unfolding record_of
  made_used = refl

  pub made_sized : length (record_for c l a lto) ≡ record_size
  made_sized = length_made (kept_of c l a lto) (set_for c a.report)

module _ (t c l : List ℕ) (last : ℕ) (a : Arrival) (lto : ℤ) (full : WhenFull) where
  abbrev pub minute : ℕ
  minute = a.minute.0

  abbrev pub kind : Kind
  kind = kind_for c a.report

  module _ (fine : Accepted t c l last a lto full) where
    pub ok : Checked t c l last a lto
    ok = checked t c l last a lto (passed t c l last a lto full fine).0

    pub whole : length t % record_size ≡ 0
    whole = lent_whole t c l ok.lent

    after : List ℕ
    after = after_matching minute (matches_of c a) t

    same : length after ≡ length t
    unfolding after
    same = length_both minute (matches_of c a) (matches_never c a) t whole

    free-inside : (k : ℕ) → free_in minute (matches_of c a) t ≡ Some k → k < length t / record_size
    unfolding after free_in lowest_free
    free-inside k e = omega (arith, found_within is_free (records after) k (sym e), length-records after, same)

    -- the place for the report is within the table
    pub inside : place_in minute (matches_of c a) t < length t / record_size
    unfolding place_in after
    inside = by_room (free_in minute (matches_of c a) t) refl
      where
        by_room : (x : Option ℕ) → free_in minute (matches_of c a) t ≡ x → unwrap_or x (soonest (records after)) < length t / record_size
        by_room None e = subst (λ (n : ℕ). soonest (records after) < n / record_size) same (soonest_ends after (subst (λ (n : ℕ). 0 < n / record_size) (sym same) (table_some t (lent_table t c l ok.lent)))).0
        by_room (Some k) e = free-inside k e

    pub both_whole : length (after_matching minute (matches_of c a) t) % record_size ≡ 0
    both_whole = whole_both minute (matches_of c a) (matches_never c a) t whole

    pub both_inside : place_in minute (matches_of c a) t < length (after_matching minute (matches_of c a) t) / record_size
    both_inside = subst (λ (n : ℕ). place_in minute (matches_of c a) t < n / record_size) (sym (length_both minute (matches_of c a) (matches_never c a) t whole)) inside

  -- what holds of the table at entry and of the tables that a take may leave, holds of the table afterwards
  pub after-take :
      (P : List ℕ → Type 0) → P t
      → (Accepted t c l last a lto full → P (after_matching minute (matches_of c a) t))
      → (Accepted t c l last a lto full → kind ≡ Ordinary → P (after_storing minute (matches_of c a) (record_for c l a lto) t))
      → P (take_table t c l last a lto full)
  unfolding taken_table
  after-take P here freed stored = by_answer (take_answer t c l last a lto full) refl
    where
      by_kind : (b : Bool) → Accepted t c l last a lto full → is_ordinary kind ≡ b → P (take_table t c l last a lto full)
      by_kind true fine e = subst P (sym (accepted_take t c l last a lto full fine ∙ chosen _ _ _ e)) (stored fine (ordinary_is kind e))
      by_kind false fine e = subst P (sym (accepted_take t c l last a lto full fine ∙ passed_over _ _ _ e)) (freed fine)

      by_answer : (r : Result Answer Refusal) → take_answer t c l last a lto full ≡ r → P (take_table t c l last a lto full)
      by_answer (Ok x) e = by_kind (is_ordinary kind) (ap is_ok e) refl
      by_answer (Err x) e = subst P (sym (refused-take t c l last a lto full x e)) here
