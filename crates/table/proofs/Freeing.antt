-- Freeing by one test and then by another, which holds of no free record, is freeing by either at once.
use Prim.Native.Nat.{ℕ, ◌+◌, ◌-◌, ◌*◌, ◌/◌, ◌%◌, ◌≤◌, ◌<◌}
use native.Mathlib.Omega.{arith}
use mathlib.Core.Path.{◌≡◌, refl, sym, ap, ap₂, subst, ◌∙◌}
use mathlib.Core.Bool.{Bool, true, false, cond, not, ◌&&◌, ◌||◌, or-false}
use mathlib.Core.List.{List, [], ◌∷◌, map}
use lib.ListN.{length, take, drop, get_or, length-map, get_or-map}
use borrow.Rule.Slice.PartMut.{put_mid}
use Rattle.bits.specs.Lists.{joined}
use Rattle.bits.specs.Bits.{num}
use Rattle.record.specs.Layout.{record_size, free_record, is_free}
use Rattle.record.specs.Gone.{expired, either, only_second, freed_if, one_record}
use Rattle.record.proofs.Steps.{freed, unfreed, one_record_lem, one_freed}
use Rattle.lent.specs.Records.{chunks, records, all_of}
use Rattle.std.specs.List.{position, position_or_len}
use Rattle.std.specs.Option.{is_none}
use Rattle.table.specs.Records.{count_if, over, free_where, count_where, lowest_free}
use Rattle.table.specs.Steps.{after_matching, matched_in, free_in, no_room}
use Rattle.table.proofs.Counts.{num_le, count_le, count_map, count_none, count-either, count-within, first-none, none_found, none-all}
use Rattle.table.proofs.Sweeps.{Keeps, length-chunks, swept, part_sized, swept_next, count_next, length_over, records-over, over-over}
use Rattle.table.proofs.Storing.{joined-records}

-- by a test, a record is freed or as it was
module _ (p : List ℕ → Bool) where
  -- what holds of a free record and of the record itself, holds of the record freed by a test
  pub freed-either : (P : List ℕ → Type 0) (r : List ℕ) → P free_record → P r → P (freed_if p r)
  unfolding freed_if
  freed-either P r free same = by_test (p r)
    where
      by_test : (b : Bool) → P (cond b free_record r)
      by_test true = free
      by_test false = same

  pub freed-keeps : Keeps (freed_if p)
  freed-keeps r long = freed-either (λ x. length x ≡ record_size) r refl long

  -- record i where each record is freed or not
  pub each_record : (rs : List (List ℕ)) (i : ℕ) → get_or (map (freed_if p) rs) i free_record ≡ freed_if p (get_or rs i free_record)
  each_record rs i = ap (get_or (map (freed_if p) rs) i) (sym (freed-either (λ x. x ≡ free_record) free_record refl refl)) ∙ get_or-map (freed_if p) rs i free_record

  -- records of which the test holds of none
  pub none-freed : (rs : List (List ℕ)) → count_if p rs ≡ 0 → map (freed_if p) rs ≡ rs
  unfolding count_if num
  none-freed [] z = refl
  none-freed (r ∷ rs) z = by_test (p r) refl z (none-freed rs)
    where
      by_test : (b : Bool) → p r ≡ b → num b + count_if p rs ≡ 0 → (count_if p rs ≡ 0 → map (freed_if p) rs ≡ rs) → freed_if p r ∷ map (freed_if p) rs ≡ r ∷ rs
      by_test true e k rest = absurd (omega arith)
      by_test false e k rest = ap₂ (λ (x : List ℕ) (xs : List (List ℕ)). x ∷ xs) (sym (unfreed p r e).1) (rest (omega arith))

  -- where no record is free afterwards, the test holds of none
  pub none_left : (rs : List (List ℕ)) → length rs ≤ position_or_len is_free (map (freed_if p) rs) → count_if p rs ≡ 0
  none_left rs h =
      let none : count_if (λ r. is_free (freed_if p r)) rs ≡ 0 = sym (count_map is_free (λ r. is_free (freed_if p r)) (freed_if p) rs (λ r. refl)) ∙ first-none is_free (map (freed_if p) rs) (omega (arith, length-map rs (freed_if p))) in
      omega (arith, count-within p (λ r. is_free (freed_if p r)) rs (λ r e. ap is_free (sym (freed p r e).1)))

-- one test and then another
module _ (p q : List ℕ → Bool) (never : q free_record ≡ false) where
  pub freed_at_once : (r : List ℕ) → freed_if q (freed_if p r) ≡ freed_if (either p q) r
  unfolding freed_if
  freed_at_once r = by_test (p r)
    where
      by_test : (b : Bool) → cond (q (cond b free_record r)) free_record (cond b free_record r) ≡ cond (b || q r) free_record r
      by_test true = ap (λ (x : Bool). cond x free_record free_record) never
      by_test false = refl

  second_once : (r : List ℕ) → q (freed_if p r) ≡ only_second p q r
  unfolding freed_if
  second_once r = by_test (p r)
    where
      by_test : (b : Bool) → q (cond b free_record r) ≡ not b && q r
      by_test true = never
      by_test false = refl

  -- what is freed by the second test, and then tested by it, it holds of no more
  pub second_gone : (r : List ℕ) → q (freed_if (either p q) r) ≡ false
  second_gone r = by_test (either p q r) refl
    where
      by_test : (b : Bool) → either p q r ≡ b → q (freed_if (either p q) r) ≡ false
      by_test true e = ap q (sym (freed (either p q) r e).1) ∙ never
      by_test false e = ap q (sym (unfreed (either p q) r e).1) ∙ right (p r) (q r) e
        where
          right : (a b : Bool) → a || b ≡ false → b ≡ false
          right true b h = let z : true ≡ false = h in cc
          right false b h = h

-- a pass that frees by a test, one record more
module _ (p : List ℕ → Bool) (i : ℕ) (t₀ t : List ℕ) (inside : i < length t₀ / record_size) (e : t ≡ swept (freed_if p) i t₀) where
  -- the part that is lent for it
  abbrev part : List ℕ
  part = take (i * record_size + record_size - i * record_size) (drop (i * record_size) t)

  long : length part ≡ record_size
  long = part_sized (freed_if p) (freed-keeps p) i t₀ t inside e

  pub freed-next : (ys : List ℕ) → ys ≡ freed_if (one_record p) part → put_mid (i * record_size) (i * record_size + record_size - i * record_size) t ys ≡ swept (freed_if p) (i + 1) t₀
  freed-next ys h = swept_next (freed_if p) (freed-keeps p) i t₀ t inside e ys (h ∙ one_freed p part long)

  pub counted_next : (q : List ℕ → Bool) (n : ℕ) → n ≡ num (one_record q part) → (n ≤ 1) × (count_if q (chunks i t₀) ≤ i) × (count_if q (chunks i t₀) + n ≡ count_if q (chunks (i + 1) t₀))
  counted_next q n h = (
    omega (arith, h, num_le (one_record q part)),
    omega (arith, count_le q (chunks i t₀), length-chunks i t₀),
    count_next (freed_if p) (freed-keeps p) i t₀ t inside e q n (h ∙ ap num (one_record_lem q part long)),
  )

-- steps 1 and 2 at once
module _ (minute : ℕ) (q : List ℕ → Bool) (never : q free_record ≡ false) (t : List ℕ) (whole : length t % record_size ≡ 0) where
  pub both_at_once : after_matching minute q t ≡ free_where (either (expired minute) q) t
  unfolding after_matching
  both_at_once = over-over (freed_if (expired minute)) (freed-keeps (expired minute)) t whole (freed_if q) (freed_if (either (expired minute) q)) (freed_at_once (expired minute) q never)

  pub matched_counted : matched_in minute q t ≡ count_where (only_second (expired minute) q) t
  unfolding matched_in count_where
  matched_counted = ap (count_if q) (records-over (freed_if (expired minute)) (freed-keeps (expired minute)) t whole) ∙ count_map q (only_second (expired minute) q) (freed_if (expired minute)) (records t) (second_once (expired minute) q never)

  pub length_both : length (after_matching minute q t) ≡ length t
  length_both = ap length both_at_once ∙ length_over (freed_if (either (expired minute) q)) (freed-keeps (either (expired minute) q)) t whole

  pub whole_both : length (after_matching minute q t) % record_size ≡ 0
  whole_both = ap (λ (n : ℕ). n % record_size) length_both ∙ whole

  pub records_both : records (after_matching minute q t) ≡ map (freed_if (either (expired minute) q)) (records t)
  records_both = ap records both_at_once ∙ records-over (freed_if (either (expired minute) q)) (freed-keeps (either (expired minute) q)) t whole

  pub free_is : free_in minute q t ≡ position is_free (map (freed_if (either (expired minute) q)) (records t))
  unfolding free_in lowest_free
  free_is = ap (position is_free) records_both

  -- where there is no room
  module _ (full : no_room minute q t ≡ true) where
    none_free : length (map (freed_if (either (expired minute) q)) (records t)) ≤ position_or_len is_free (map (freed_if (either (expired minute) q)) (records t))
    none_free = none_found is_free (map (freed_if (either (expired minute) q)) (records t)) (sym (ap is_none free_is) ∙ full)

    none-either : count_if (either (expired minute) q) (records t) ≡ 0
    none-either = none_left (either (expired minute) q) (records t) (omega (arith, none_free, length-map (records t) (freed_if (either (expired minute) q))))

    pub as_they_were : map (freed_if (either (expired minute) q)) (records t) ≡ records t
    as_they_were = none-freed (either (expired minute) q) (records t) none-either

    -- nothing was freed, none had expired, none matched, and all are used
    pub none_gone : after_matching minute q t ≡ t
    unfolding over
    none_gone = both_at_once ∙ ap joined as_they_were ∙ joined-records t whole

    pub none-expired : count_if (expired minute) (records t) ≡ 0
    none-expired = omega (arith, none-either, count-either (expired minute) q (records t))

    pub none_matched : count_if (only_second (expired minute) q) (records t) ≡ 0
    none_matched = omega (arith, none-either, count-either (expired minute) q (records t))

    pub all-used : all_of (λ r. not (is_free r)) (records t) ≡ true
    all-used = none-all is_free (records t) (first-none is_free (records t) (subst (λ (rs : List (List ℕ)). length rs ≤ position_or_len is_free rs) as_they_were none_free))

-- where nothing matches, step 2 does nothing
module _ (minute : ℕ) (t : List ℕ) (whole : length t % record_size ≡ 0) where
  pub nothing_matched : matched_in minute (λ r. false) t ≡ 0
  unfolding matched_in count_where
  nothing_matched = count_none (λ r. false) (records (free_where (expired minute) t)) (λ r. refl)

  pub nothing_changed : after_matching minute (λ r. false) t ≡ free_where (expired minute) t
  unfolding over
  nothing_changed = both_at_once minute (λ r. false) refl t whole ∙ ap joined (map_same (records t))
    where
      map_same : (rs : List (List ℕ)) → map (freed_if (either (expired minute) (λ r. false))) rs ≡ map (freed_if (expired minute)) rs
      map_same [] = refl
      map_same (r ∷ rs) = ap₂ (λ (x : List ℕ) (xs : List (List ℕ)). x ∷ xs) (unfold freed_if in ap (λ (b : Bool). cond b free_record r) (or-false (expired minute r))) (map_same rs)
