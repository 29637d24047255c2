-- Demand 2 of the table: every call has the effect that it should, an accepted event is ordinary, cancelling or null, the clock never goes
-- back, and no record is lost or counted twice.
use Prim.Native.Nat.{ℕ, ◌+◌, ◌%◌, ◌≤◌, ◌<◌}
use native.Mathlib.Omega.{arith}
use mathlib.Core.Path.{◌≡◌, refl, sym, ap, ap₂, subst, subst₂, ◌∙◌}
use mathlib.Core.Bool.{Bool, true, false, cond, not, ◌&&◌}
use mathlib.Core.List.{List, [], ◌∷◌, map}
use lib.IntN.{ℤ}
use lib.ListN.{length, set, get_or, length-map}
use Rattle.std.specs.Prelude.{Option, Some, None, is_none, unwrap_or, Result, Ok, Err, is_ok}
use Rattle.std.specs.List.{position_or_len}
use Rattle.std.proofs.lemmas.List.Sums.{passes_at_first}
use Rattle.refusal.specs.declared.Refusal.{Refusal}
use Rattle.bits.specs.Bits.{num}
use Rattle.bits.proofs.Choice.{chosen, passed_over}
use Rattle.record.specs.Layout.{record_size, free_record, is_free, expiry_in}
use Rattle.record.specs.Gone.{expired, either, only_second, freed_if}
use Rattle.lent.specs.Records.{records, all_of}
use Rattle.lent.proofs.Lents.{table_whole, all_at}
use Rattle.checks.specs.declared.Arrival.{Arrival}
use Rattle.checks.specs.Events.{is_known, is_ordinary, kind_for}
use Rattle.checks.proofs.Checked.{minute_fits}
use Rattle.table.specs.declared.Step.{Step}
use Rattle.table.specs.declared.WhenFull.{WhenFull}
use Rattle.table.specs.declared.Answer.{Answer}
use Rattle.table.specs.declared.Answer.TheVariants.{Freed, Stored, Dropped}
use Rattle.table.specs.Answers.{expired_of, matched_of, dropped_of, stored_of}
use Rattle.table.specs.Records.{count_if, count_where, soonest}
use Rattle.table.specs.Steps.{step, stepped, after_expiry, expired_in, after_matching, matched_in, free_in, no_room, place_in, after_storing}
use Rattle.table.specs.Expire.{expire_answer, expire_step, expire_table}
use Rattle.table.specs.Take.{matches_of, keeps, storing_answer, taken_answer, taken_table, take_answer, take_step, take_table}
use Rattle.table.specs.Calls.{Call, taking, expiring, step_of, table_after, minute_of, match_of, stores_of, made_of, drops_of}
use Rattle.table.specs.Effect.{Effect, refuses, frees, stores, drops, used, used_in, freed_by, expired_by, matched_by}
use Rattle.table.proofs.Counts.{clash, count-either, count_set, one_found}
use Rattle.table.proofs.Sweeps.{length-records}
use Rattle.table.proofs.Soonest.{soonest_ends}
use Rattle.table.proofs.Storing.{records-stored}
use Rattle.table.proofs.Freeing.{matched_counted, records_both, free_is, as_they_were, none_gone, none-expired, none_matched, all-used, nothing_matched, nothing_changed}
use Rattle.table.proofs.Takes.{Accepted, passed, refused-take, accepted_take, expiry_parts, refused-expiry, accepted_expiry}
use Rattle.table.proofs.Accepted.{OnlyUsed, expired-used, matches-used, either-used, matches_never, made_used, made_sized, ok, whole, inside, both_whole, both_inside}

-- where there is none, the other
none_is : (x : Option ℕ) (d : ℕ) → is_none x ≡ true → unwrap_or x d ≡ d
none_is None d e = refl
none_is (Some k) d e = clash e refl

-- a take
module _ (t c l : List ℕ) (last : ℕ) (a : Arrival) (lto : ℤ) (full : WhenFull) where
  abbrev call : Call
  call = taking a lto l full

  abbrev m : ℕ
  m = minute_of call

  abbrev q : List ℕ → Bool
  q = match_of c call

  abbrev Done : Type 0
  Done = Effect c t last call (take_step t c l last a lto full) (take_table t c l last a lto full)

  module _ (fine : Accepted t c l last a lto full) where
    forward : last ≤ m
    forward = (minute_fits last m (ok t c l last a lto full fine).minute_fit).0

    matched_is : matched_in m q t ≡ count_if (only_second (expired m) q) (records t)
    unfolding count_where
    matched_is = matched_counted m q (matches_never c a) t (whole t c l last a lto full fine)

    freed_way : (u : List ℕ) → is_ordinary (kind_for c a.report) ≡ false → u ≡ after_matching m q t → Effect c t last call (step m (Ok (Freed (expired_in m t) (matched_in m q t)))) u
    unfolding count_where
    freed_way u e f =
        subst (λ (n : ℕ). Effect c t last call (step m (Ok (Freed (expired_in m t) n))) u) (sym matched_is)
        (frees e forward (ap records f ∙ records_both m q (matches_never c a) t (whole t c l last a lto full fine)))

    -- stored, in a free record or, where there is no room, in that of the one that ends soonest
    stored_way : (u : List ℕ) → is_ordinary (kind_for c a.report) ≡ true → u ≡ after_storing m q (made_of c call) t → Effect c t last call (step m (Ok (storing_answer m q t))) u
    unfolding count_where place_in after_storing storing_answer
    stored_way u e f = by_room (no_room m q t) refl
      where
        never : matches_of c a free_record ≡ false
        never = matches_never c a

        w : length t % record_size ≡ 0
        w = whole t c l last a lto full fine

        room : place_in m q t < length (records t)
        room = omega (arith, inside t c l last a lto full fine, length-records t)

        after : records u ≡ set (freed_by c call (records t)) (place_in m q t) (made_of c call)
        after =
            ap records f
            ∙ records-stored (after_matching m q t) (made_of c call) (place_in m q t) (both_whole t c l last a lto full fine) (both_inside t c l last a lto full fine) (made_sized c l a lto)
            ∙ ap (λ (rs : List (List ℕ)). set rs (place_in m q t) (made_of c call)) (records_both m q never t w)

        free : no_room m q t ≡ false → place_in m q t ≡ position_or_len is_free (freed_by c call (records t))
        free k =
            let found = one_found is_free (freed_by c call (records t)) (ap is_none (sym (free_is m q never t w)) ∙ k) in
            ap (λ (x : Option ℕ). unwrap_or x (soonest (records (after_matching m q t)))) (free_is m q never t w) ∙ found.1 (soonest (records (after_matching m q t)))

        ends : no_room m q t ≡ true → place_in m q t ≡ soonest (records t)
        ends k = none_is (free_in m q t) (soonest (records (after_matching m q t))) k ∙ ap (λ (v : List ℕ). soonest (records v)) (none_gone m q never t w k)

        dropping : no_room m q t ≡ true → not (keeps full) ≡ true
        dropping k = ap not (sym (ap₂ (λ (x y : Bool). x && (y && keeps full)) e k) ∙ (passed t c l last a lto full fine).1)

        by_room : (b : Bool) → no_room m q t ≡ b → Effect c t last call (step m (Ok (storing_answer m q t))) u
        by_room true k =
            subst (λ (x : Answer). Effect c t last call (step m (Ok x)) u) (sym (chosen _ _ _ k))
            (drops (place_in m q t) e (dropping k) forward (all-used m q never t w k) (none-expired m q never t w k) (none_matched m q never t w k) (ends k) room (after ∙ ap (λ (rs : List (List ℕ)). set rs (place_in m q t) (made_of c call)) (as_they_were m q never t w k)))
        by_room false k =
            subst (λ (x : Answer). Effect c t last call (step m (Ok x)) u) (sym (passed_over _ _ _ k ∙ ap (λ (n : ℕ). Stored (expired_in m t) n (place_in m q t)) matched_is)) (stores (place_in m q t) e forward (free k) room after)

    by_kind : (b : Bool) → is_ordinary (kind_for c a.report) ≡ b → Effect c t last call (step m (Ok (taken_answer (kind_for c a.report) m q t))) (take_table t c l last a lto full)
    unfolding taken_answer taken_table
    by_kind true e =
        subst (λ (x : Answer). Effect c t last call (step m (Ok x)) (take_table t c l last a lto full)) (sym (chosen _ _ _ e)) (stored_way (take_table t c l last a lto full) e (accepted_take t c l last a lto full fine ∙ chosen _ _ _ e))
    by_kind false e =
        subst (λ (x : Answer). Effect c t last call (step m (Ok x)) (take_table t c l last a lto full)) (sym (passed_over _ _ _ e)) (freed_way (take_table t c l last a lto full) e (accepted_take t c l last a lto full fine ∙ passed_over _ _ _ e))

  take_effect : Done
  take_effect = by_answer (take_answer t c l last a lto full) refl
    where
      by_answer : (r : Result Answer Refusal) → take_answer t c l last a lto full ≡ r → Done
      by_answer (Ok x) e =
          let fine : Accepted t c l last a lto full = ap is_ok e in
          subst (λ (s : Result Answer Refusal). Effect c t last call (stepped last m s) (take_table t c l last a lto full)) (sym (passed t c l last a lto full fine).2) (by_kind fine (is_ordinary (kind_for c a.report)) refl)
      by_answer (Err x) e = subst₂ (λ (s : Result Answer Refusal) (u : List ℕ). Effect c t last call (stepped last m s) u) (sym e) (sym (refused-take t c l last a lto full x e)) (refuses x)

-- expiry alone
expire_effect : (c t : List ℕ) (last minute : ℕ) → Effect c t last (expiring minute) (expire_step t last minute) (expire_table t last minute)
unfolding count_where
expire_effect c t last minute = by_answer (expire_answer t last minute) refl
  where
    Done : Result Answer Refusal → List ℕ → Type 0
    Done s u = Effect c t last (expiring minute) (stepped last minute s) u

    freed : is_ok (expire_answer t last minute) ≡ true → Done (Ok (Freed (expired_in minute t) 0)) (after_expiry minute t)
    freed e =
        let parts = expiry_parts t last minute e in
        let w = table_whole t parts.0 in
        let none = matched_counted minute (λ r. false) refl t w in
        subst₂ Done
        (ap (λ (n : ℕ). Ok (Freed (expired_in minute t) n)) (sym none ∙ nothing_matched minute t w))
        (nothing_changed minute t w)
        (frees refl (minute_fits last minute parts.1).0 (records_both minute (λ r. false) refl t w))

    by_answer : (r : Result Answer Refusal) → expire_answer t last minute ≡ r → Done (expire_answer t last minute) (expire_table t last minute)
    by_answer (Ok x) e = let fine = ap is_ok e in subst₂ Done (sym (expiry_parts t last minute fine).2) (sym (accepted_expiry t last minute fine)) (freed fine)
    by_answer (Err x) e = subst₂ Done (sym e) (sym (refused-expiry t last minute x e)) (refuses x)

-- every call
pub demand2 : (c t : List ℕ) (last : ℕ) (call : Call) → Effect c t last call (step_of c t last call) (table_after c t last call)
unfolding step_of table_after
demand2 c t last (taking a lto l full) = take_effect t c l last a lto full
demand2 c t last (expiring minute) = expire_effect c t last minute

-- an accepted event is ordinary, cancelling or null
pub accepted_kind : (t c l : List ℕ) (last : ℕ) (a : Arrival) (lto : ℤ) (full : WhenFull) → Accepted t c l last a lto full → is_known (kind_for c a.report) ≡ true
accepted_kind t c l last a lto full fine = (ok t c l last a lto full fine).known

-- the used records that a freeing leaves, and those that it frees
count-freed : (p : List ℕ → Bool) (rs : List (List ℕ)) → OnlyUsed p → count_if (λ r. not (is_free r)) (map (freed_if p) rs) + count_if p rs ≡ count_if (λ r. not (is_free r)) rs
unfolding count_if freed_if num
count-freed p [] only = refl
count-freed p (r ∷ rs) only = omega (arith, count-freed p rs only, one (p r) (only r))
  where
    one : (b : Bool) → (b ≡ true → is_free r ≡ false) → num (not (is_free (cond b free_record r))) + num b ≡ num (not (is_free r))
    one true h = sym (ap (λ (f : Bool). num (not f)) (h refl))
    one false h = omega arith

module _ (c t : List ℕ) (last : ℕ) (call : Call) where
  ends_used : (k : Call) → OnlyUsed (either (expired (minute_of k)) (match_of c k))
  ends_used (taking a lto l full) = either-used (expired a.minute.0) (matches_of c a) (expired-used a.minute.0) (matches-used c a)
  ends_used (expiring minute) = either-used (expired minute) (λ r. false) (expired-used minute) (λ r h. clash h refl)

  -- the clock never goes back
  pub clock_forward : last ≤ (step_of c t last call).last.0
  clock_forward = by_effect (demand2 c t last call)
    where
      by_effect : {s : Step} {u : List ℕ} → Effect c t last call s u → last ≤ s.last.0
      by_effect (refuses n) = omega arith
      by_effect (frees none later e) = later
      by_effect (stores place one later found room e) = later
      by_effect (drops place one may later full expired matched found room e) = later

  -- a refusal leaves the table and the clock
  pub refusal-keeps : (n : Refusal) → (step_of c t last call).answer ≡ Err n → (table_after c t last call ≡ t) × ((step_of c t last call).last.0 ≡ last)
  refusal-keeps = by_effect (demand2 c t last call)
    where
      by_effect : {s : Step} {u : List ℕ} → Effect c t last call s u → (n : Refusal) → s.answer ≡ Err n → (u ≡ t) × (s.last.0 ≡ last)
      by_effect (refuses k) n r = (refl, refl)
      by_effect (frees none later e) n r = absurd (cc)
      by_effect (stores place one later found room e) n r = absurd (cc)
      by_effect (drops place one may later full expired matched found room e) n r = absurd (cc)

  -- the used records afterwards, the expired, the matched and the dropped ones are together the used records before and the one stored
  pub conserved : used_in (table_after c t last call) + expired_of (step_of c t last call).answer + matched_of (step_of c t last call).answer + dropped_of (step_of c t last call).answer ≡ used_in t + stored_of (step_of c t last call).answer
  unfolding num
  conserved = by_effect (demand2 c t last call)
    where
      gone : count_if used (freed_by c call (records t)) + expired_by call (records t) + matched_by c call (records t) ≡ used_in t
      gone = omega (arith, count-freed (either (expired (minute_of call)) (match_of c call)) (records t) (ends_used call), count-either (expired (minute_of call)) (match_of c call) (records t))

      made_one : (k : Call) → stores_of c k ≡ true → num (used (made_of c k)) ≡ 1
      made_one (taking a lto l full) e = ap (λ (b : Bool). num (not b)) (made_used c l a lto)
      made_one (expiring minute) e = clash e refl

      by_effect : {s : Step} {u : List ℕ} → Effect c t last call s u → used_in u + expired_of s.answer + matched_of s.answer + dropped_of s.answer ≡ used_in t + stored_of s.answer
      by_effect (refuses n) = omega arith
      by_effect (frees none later e) = omega (arith, ap (count_if used) e, gone)
      by_effect (stores place one later found room e) =
          let rs = freed_by c call (records t) in
          let there : place < length rs = omega (arith, length-map (records t) (freed_if (either (expired (minute_of call)) (match_of c call)))) in
          let free : is_free (get_or rs place free_record) ≡ true = ap (λ (n : ℕ). is_free (get_or rs n free_record)) found ∙ passes_at_first is_free rs free_record (subst (λ (n : ℕ). n < length rs) found there) in
          let old : num (used (get_or rs place free_record)) ≡ 0 = ap (λ (b : Bool). num (not b)) free in
          omega (arith, ap (count_if used) e, gone, count_set used rs place (made_of c call) free_record there, old, made_one call one)
      by_effect (drops place one may later full expired matched found room e) =
          let old : num (used (get_or (records t) place free_record)) ≡ 1 = ap num (all_at used (records t) place free_record full room) in
          omega (arith, ap (count_if used) e, count_set used (records t) place (made_of c call) free_record room, old, made_one call one)

  -- a record is dropped only if the call may drop one, all are used, none has expired and none matches
  pub dropped_full : (place : ℕ) → (step_of c t last call).answer ≡ Ok (Dropped place) → (drops_of call ≡ true) × (all_of used (records t) ≡ true) × (expired_by call (records t) ≡ 0) × (matched_by c call (records t) ≡ 0)
  dropped_full = by_effect (demand2 c t last call)
    where
      by_effect : {s : Step} {u : List ℕ} → Effect c t last call s u → (place : ℕ) → s.answer ≡ Ok (Dropped place) → (drops_of call ≡ true) × (all_of used (records t) ≡ true) × (expired_by call (records t) ≡ 0) × (matched_by c call (records t) ≡ 0)
      by_effect (refuses k) n r = absurd (cc)
      by_effect (frees none later e) n r = absurd (cc)
      by_effect (stores place one later found room e) n r = absurd (cc)
      by_effect (drops place one may later full expired matched found room e) n r = (may, full, expired, matched)

  -- it ends no later than any other one, and sooner than each one before it
  abbrev end : ℕ → ℕ
  end i = expiry_in (get_or (records t) i free_record)

  abbrev Soonest : ℕ → Type 0
  Soonest place = (i : ℕ) → i < length (records t) → (end place ≤ end i) × (i < place → end place < end i)

  pub dropped_soonest : (place : ℕ) → (step_of c t last call).answer ≡ Ok (Dropped place) → Soonest place
  dropped_soonest = by_effect (demand2 c t last call)
    where
      same : (x y : ℕ) → ◌≡◌ {A = Result Answer Refusal} (Ok (Dropped x)) (Ok (Dropped y)) → x ≡ y
      same x y e = cc

      by_effect : {s : Step} {u : List ℕ} → Effect c t last call s u → (place : ℕ) → s.answer ≡ Ok (Dropped place) → Soonest place
      by_effect (refuses k) n r = absurd (cc)
      by_effect (frees none later e) n r = absurd (cc)
      by_effect (stores place one later found room e) n r = absurd (cc)
      by_effect (drops place one may later full expired matched found room e) n r =
          subst Soonest (sym found ∙ same place n r) (λ i h. (soonest_ends t (omega (arith, room, length-records t))).1 i (omega (arith, h, length-records t)))
