-- The record that ends soonest.
use Prim.Native.Nat.{ℕ, zero, suc, ◌+◌, ◌-◌, ◌/◌, ◌≤◌, ◌<◌}
use native.Mathlib.Numerals.{add-one}
use native.Mathlib.Omega.{arith}
use mathlib.Core.Path.{◌≡◌, refl, sym, ap, subst, subst₂, ◌∙◌}
use mathlib.Core.Bool.{Bool, true, false, cond, not, ◌&&◌}
use mathlib.Core.List.{List, [], ◌∷◌, ◌++◌}
use lib.ListN.{length, get_or, length-append}
use lib.Dec.{leb}
use borrow.Author.Tests.{leb-true, leb-false, le-leb, lt-leb}
use Rattle.record.specs.Layout.{record_size, free_record, expiry_in}
use Rattle.lent.specs.Records.{chunks, records, all_of}
use Rattle.lent.proofs.Lents.{all_at}
use Rattle.lent.proofs.Passes.{nth}
use Rattle.std.specs.List.{position_or_len}
use Rattle.std.proofs.lemmas.List.Sums.{passes_at_first, fails_before_first}
use Rattle.table.specs.Records.{soonest}
use Rattle.table.proofs.Counts.{first-same, first_snoc, first_last, all-within, all_snoc}
use Rattle.table.proofs.Sweeps.{chunks-suc, length-chunks}

-- the records that end at a minute or before it
abbrev ends_by : ℕ → List ℕ → Bool
ends_by m r = leb (expiry_in r) m

-- no record ends before minute m, and the first one that ends by it is in this place
pub record Least (rs : List (List ℕ)) (place m : ℕ) : Type 0 where
  low : all_of (λ x. leb m (expiry_in x)) rs ≡ true
  found : position_or_len (ends_by m) rs ≡ place
  inside : place < length rs

module _ {rs : List (List ℕ)} {place m : ℕ} (least : Least rs place m) where
  -- when record i ends
  abbrev end : ℕ → ℕ
  end i = expiry_in (get_or rs i free_record)

  ends_at : end place ≤ m
  ends_at = subst (λ (n : ℕ). end n ≤ m) least.found (leb-true (end (position_or_len (ends_by m) rs)) m (passes_at_first (ends_by m) rs free_record (subst (λ (n : ℕ). n < length rs) (sym least.found) least.inside)))

  low_at : (i : ℕ) → i < length rs → m ≤ end i
  low_at i h = leb-true m (end i) (all_at (λ x. leb m (expiry_in x)) rs i free_record least.low h)

  -- it is the one that ends soonest
  soonest_is : soonest rs ≡ place
  unfolding soonest
  soonest_is = first-same (λ r. all_of (λ x. leb (expiry_in r) (expiry_in x)) rs) (ends_by m) rs free_record (λ i h. same i h (leb (end i) m) refl) ∙ least.found
    where
      same : (i : ℕ) → i < length rs → (b : Bool) → leb (end i) m ≡ b → all_of (λ x. leb (end i) (expiry_in x)) rs ≡ leb (end i) m
      same i h true e = all-within (λ x. leb m (expiry_in x)) (λ x. leb (end i) (expiry_in x)) rs (λ x k. le-leb (end i) (expiry_in x) (omega (arith, leb-true (end i) m e, leb-true m (expiry_in x) k))) least.low ∙ sym e
      same i h false e = by_all (all_of (λ x. leb (end i) (expiry_in x)) rs) refl
        where
          by_all : (b : Bool) → all_of (λ x. leb (end i) (expiry_in x)) rs ≡ b → all_of (λ x. leb (end i) (expiry_in x)) rs ≡ leb (end i) m
          by_all true k = absurd (omega (arith, leb-true (end i) (end place) (all_at (λ x. leb (end i) (expiry_in x)) rs place free_record k least.inside), ends_at, leb-false (end i) m e))
          by_all false k = k ∙ sym e

  -- no record ends sooner, and each one before it ends later
  none_sooner : (i : ℕ) → i < length rs → end place ≤ end i
  none_sooner i h = omega (arith, ends_at, low_at i h)

  later-before : (i : ℕ) → i < place → end place < end i
  later-before i h = omega (arith, ends_at, leb-false (end i) m (fails_before_first (ends_by m) rs i free_record (subst (λ (n : ℕ). i < n) (sym least.found) h)))

  -- one record more: it ends sooner, or not
  least-new : (r : List ℕ) → expiry_in r < m → Least (rs ++ (r ∷ [])) (length rs) (expiry_in r)
  least-new r h = record {
    low = all_snoc (λ x. leb (expiry_in r) (expiry_in x)) rs r (all-within (λ x. leb m (expiry_in x)) (λ x. leb (expiry_in r) (expiry_in x)) rs (λ x k. le-leb (expiry_in r) (expiry_in x) (omega (arith, leb-true m (expiry_in x) k))) least.low) (le-leb (expiry_in r) (expiry_in r) (omega arith));
    found = first_last (ends_by (expiry_in r)) (λ x. leb m (expiry_in x)) rs r (λ x k. lt-leb (expiry_in x) (expiry_in r) (omega (arith, leb-true m (expiry_in x) k))) least.low (le-leb (expiry_in r) (expiry_in r) (omega arith));
    inside = omega (arith, length-append rs (r ∷ []));
  }

  least-same : (r : List ℕ) → m ≤ expiry_in r → Least (rs ++ (r ∷ [])) place m
  least-same r h = record {
    low = all_snoc (λ x. leb m (expiry_in x)) rs r least.low (le-leb m (expiry_in r) h);
    found = first_snoc (ends_by m) rs r (subst (λ (n : ℕ). n < length rs) (sym least.found) least.inside) ∙ least.found;
    inside = omega (arith, length-append rs (r ∷ []), least.inside);
  }

-- one record alone
least_one : (r : List ℕ) → Least (r ∷ []) 0 (expiry_in r)
least_one r =
    let self = le-leb (expiry_in r) (expiry_in r) (omega arith) in
    record { low = ap (λ (b : Bool). b && true) self; found = ap (λ (b : Bool). cond (not b) 1 0) self; inside = omega arith }

-- among the first records of a table, with one more
module _ (t : List ℕ) (i : ℕ) {place m : ℕ} (least : Least (chunks (suc i) t) place m) where
  sooner_next : expiry_in (nth t (suc i)) < m → Least (chunks (suc (suc i)) t) (suc i) (expiry_in (nth t (suc i)))
  sooner_next h = subst₂ (λ (rs : List (List ℕ)) (n : ℕ). Least rs n (expiry_in (nth t (suc i)))) (sym (chunks-suc (suc i) t)) (length-chunks (suc i) t) (least-new least (nth t (suc i)) h)

  later-next : m ≤ expiry_in (nth t (suc i)) → Least (chunks (suc (suc i)) t) place m
  later-next h = subst (λ (rs : List (List ℕ)). Least rs place m) (sym (chunks-suc (suc i) t)) (least-same least (nth t (suc i)) h)

-- some one ends soonest
some-least : (P : Type 0) (i : ℕ) (t : List ℕ) → ((place m : ℕ) → Least (chunks (suc i) t) place m → P) → P
unfolding chunks
some-least P zero t told = told 0 (expiry_in (nth t 0)) (least_one (nth t 0))
some-least P (suc i) t told = some-least P i t (λ place m least. by_end place m least (leb m (expiry_in (nth t (suc i)))) refl)
  where
    by_end : (place m : ℕ) → Least (chunks (suc i) t) place m → (b : Bool) → leb m (expiry_in (nth t (suc i))) ≡ b → P
    by_end place m least true e = told place m (later-next t i least (leb-true m (expiry_in (nth t (suc i))) e))
    by_end place m least false e = told (suc i) (expiry_in (nth t (suc i))) (sooner_next t i least (leb-false m (expiry_in (nth t (suc i))) e))

-- of a table with a record at least: it is within the table, none ends sooner, and each one before it ends later
module _ (t : List ℕ) (some : 0 < length t / record_size) where
  -- when record i ends
  abbrev ending : ℕ → ℕ
  ending i = expiry_in (get_or (records t) i free_record)

  abbrev Soonest : ℕ → Type 0
  Soonest place = (place < length t / record_size) × ((i : ℕ) → i < length t / record_size → (ending place ≤ ending i) × (i < place → ending place < ending i))

  pub soonest_ends : Soonest (soonest (records t))
  unfolding records
  soonest_ends = some-least (Soonest (soonest (records t))) (length t / record_size - 1) t found
    where
      all : suc (length t / record_size - 1) ≡ length t / record_size
      all = omega arith

      found : (place m : ℕ) → Least (chunks (suc (length t / record_size - 1)) t) place m → Soonest (soonest (records t))
      found place m one =
          let least : Least (records t) place m = subst (λ (n : ℕ). Least (chunks n t) place m) all one in
          let long = length-chunks (length t / record_size) t in
          subst Soonest (sym (soonest_is least)) (omega (arith, least.inside, long), λ i h. (none_sooner least i (omega (arith, h, long)), later-before least i))

-- what a search has found after i records: nothing yet, with the largest number of 32 bits, or the one that ends soonest
abbrev pub Sought : List ℕ → (i place m : ℕ) → Type 0
Sought t zero place m = (place ≡ 0) × (m ≡ 0xFFFF_FFFF)
Sought t (suc i) place m = Least (chunks (suc i) t) place m

module _ (t : List ℕ) (place m : ℕ) where
  pub sought_sooner : (i : ℕ) → Sought t i place m → expiry_in (nth t i) < m → Sought t (i + 1) i (expiry_in (nth t i))
  unfolding chunks
  sought_sooner i s h = subst (λ (n : ℕ). Sought t n i (expiry_in (nth t i))) (sym (add-one i)) (next i s h)
    where
      next : (j : ℕ) → Sought t j place m → expiry_in (nth t j) < m → Sought t (suc j) j (expiry_in (nth t j))
      next zero s h = least_one (nth t 0)
      next (suc j) s h = sooner_next t j s h

  pub sought_later : (i : ℕ) → Sought t i place m → m ≤ expiry_in (nth t i) → expiry_in (nth t i) ≤ 0xFFFF_FFFF → Sought t (i + 1) place m
  unfolding chunks
  sought_later i s h small = subst (λ (n : ℕ). Sought t n place m) (sym (add-one i)) (next i s h small)
    where
      next : (j : ℕ) → Sought t j place m → m ≤ expiry_in (nth t j) → expiry_in (nth t j) ≤ 0xFFFF_FFFF → Sought t (suc j) place m
      next zero s h small = let e : expiry_in (nth t 0) ≡ m = omega (arith, s.1) in subst₂ (λ (x y : ℕ). Least (nth t 0 ∷ []) x y) (sym s.0) e (least_one (nth t 0))
      next (suc j) s h small = later-next t j s h

  pub sought_all : (i : ℕ) → Sought t i place m → soonest (chunks i t) ≡ place
  unfolding soonest chunks
  sought_all zero s = sym s.0
  sought_all (suc i) s = soonest_is s
