-- Tests of records: how many a test holds of, the first one, and all of them, for any test.
use Prim.Native.Nat.{ℕ, zero, suc, ◌+◌, ◌≤◌, ◌<◌}
use native.Mathlib.Omega.{arith}
use mathlib.Core.Path.{◌≡◌, refl, sym, ap, ap₂, ◌∙◌}
use mathlib.Core.Bool.{Bool, true, false, cond, not, ◌&&◌, ◌||◌}
use mathlib.Core.List.{List, [], ◌∷◌, ◌++◌, map}
use lib.ListN.{length, set, get_or}
use Rattle.bits.specs.Bits.{num}
use Rattle.std.specs.List.{position, position_or_len}
use Rattle.std.specs.Option.{is_none, unwrap_or}
use Rattle.std.specs.Prelude.{Some, None}
use lib.Dec.{ltb}
use borrow.Author.Tests.{ltb-true, ltb-false, lt-ltb, le-ltb}
use Rattle.bits.proofs.Choice.{either as by_either, and_left, and_right}
use Rattle.record.specs.Gone.{either, only_second}
use Rattle.lent.specs.Records.{all_of}
use Rattle.table.specs.Records.{count_if}

pub num_le : (b : Bool) → num b ≤ 1
unfolding num
num_le true = omega arith
num_le false = omega arith

-- true is not false
pub clash : {A : Type 0} {b : Bool} → b ≡ true → b ≡ false → A
clash {b = b} t f = let z : ◌≡◌ {A = ℕ} 0 1 = (let e : true ≡ false = sym t ∙ f in cc) in absurd (omega arith)

pub count_le : (p : List ℕ → Bool) (rs : List (List ℕ)) → count_if p rs ≤ length rs
unfolding count_if
count_le p [] = omega arith
count_le p (r ∷ rs) = omega (arith, num_le (p r), count_le p rs)

pub count_snoc : (p : List ℕ → Bool) (rs : List (List ℕ)) (r : List ℕ) → count_if p (rs ++ (r ∷ [])) ≡ count_if p rs + num (p r)
unfolding count_if
count_snoc p [] r = omega arith
count_snoc p (x ∷ rs) r = omega (arith, count_snoc p rs r)

-- of records changed by a function
pub count_map : (p q : List ℕ → Bool) (f : List ℕ → List ℕ) (rs : List (List ℕ)) → ((r : List ℕ) → p (f r) ≡ q r) → count_if p (map f rs) ≡ count_if q rs
unfolding count_if
count_map p q f [] same = refl
count_map p q f (r ∷ rs) same = ap₂ (λ (b : Bool) (n : ℕ). num b + n) (same r) (count_map p q f rs same)

pub count_none : (p : List ℕ → Bool) (rs : List (List ℕ)) → ((r : List ℕ) → p r ≡ false) → count_if p rs ≡ 0
unfolding count_if num
count_none p [] h = refl
count_none p (r ∷ rs) h = ap₂ (λ (b : Bool) (n : ℕ). num b + n) (h r) (count_none p rs h)

-- one test, and another of those that it does not hold of
pub count-either : (p q : List ℕ → Bool) (rs : List (List ℕ)) → count_if (either p q) rs ≡ count_if p rs + count_if (only_second p q) rs
unfolding count_if
count-either p q [] = refl
count-either p q (r ∷ rs) = omega (arith, count-either p q rs, one (p r) (q r))
  where
    one : (a b : Bool) → num (a || b) ≡ num a + num (not a && b)
    one true true = unfold num in refl
    one true false = unfold num in refl
    one false true = unfold num in refl
    one false false = unfold num in refl

-- a narrower test holds of no more
pub count-within : (p q : List ℕ → Bool) (rs : List (List ℕ)) → ((r : List ℕ) → p r ≡ true → q r ≡ true) → count_if p rs ≤ count_if q rs
unfolding count_if num
count-within p q [] h = omega arith
count-within p q (r ∷ rs) h = omega (arith, one (p r) (q r) (h r), count-within p q rs h)
  where
    one : (a b : Bool) → (a ≡ true → b ≡ true) → num a ≤ num b
    one true b k = let e : num b ≡ 1 = ap num (k refl) in omega arith
    one false b k = omega arith

-- a record in place of another
pub count_set : (p : List ℕ → Bool) (rs : List (List ℕ)) (i : ℕ) (r d : List ℕ) → i < length rs → count_if p (set rs i r) + num (p (get_or rs i d)) ≡ count_if p rs + num (p r)
unfolding count_if
count_set p [] i r d h = absurd (omega arith)
count_set p (x ∷ rs) zero r d h = omega arith
count_set p (x ∷ rs) (suc i) r d h = omega (arith, count_set p rs i r d (omega arith))

-- where a test holds of no record, by the place of the first one that it holds of
pub first-none : (p : List ℕ → Bool) (rs : List (List ℕ)) → length rs ≤ position_or_len p rs → count_if p rs ≡ 0
unfolding count_if num
first-none p [] h = refl
first-none p (r ∷ rs) h = by_test (p r) h (first-none p rs)
  where
    by_test : (b : Bool) → suc (length rs) ≤ cond (not b) (1 + position_or_len p rs) 0 → (length rs ≤ position_or_len p rs → count_if p rs ≡ 0) → num b + count_if p rs ≡ 0
    by_test true k rest = absurd (omega arith)
    by_test false k rest = omega (arith, rest (omega arith))

-- tests that say the same of each record have the same first one
pub first-same : (p q : List ℕ → Bool) (rs : List (List ℕ)) (d : List ℕ) → ((i : ℕ) → i < length rs → p (get_or rs i d) ≡ q (get_or rs i d)) → position_or_len p rs ≡ position_or_len q rs
first-same p q [] d same = refl
first-same p q (r ∷ rs) d same = ap₂ (λ (b : Bool) (n : ℕ). cond (not b) (1 + n) 0) (same 0 (omega arith)) (first-same p q rs d (λ i h. same (suc i) (omega arith)))

-- with one record more after them
pub first_snoc : (p : List ℕ → Bool) (rs : List (List ℕ)) (r : List ℕ) → position_or_len p rs < length rs → position_or_len p (rs ++ (r ∷ [])) ≡ position_or_len p rs
first_snoc p [] r h = absurd (omega arith)
first_snoc p (x ∷ rs) r h = by_test (p x) h (first_snoc p rs r)
  where
    by_test : (b : Bool) → cond (not b) (1 + position_or_len p rs) 0 < suc (length rs) → (position_or_len p rs < length rs → position_or_len p (rs ++ (r ∷ [])) ≡ position_or_len p rs) → cond (not b) (1 + position_or_len p (rs ++ (r ∷ []))) 0 ≡ cond (not b) (1 + position_or_len p rs) 0
    by_test true k rest = refl
    by_test false k rest = ap (λ (n : ℕ). 1 + n) (rest (omega arith))

pub first_last : (p q : List ℕ → Bool) (rs : List (List ℕ)) (r : List ℕ) → ((x : List ℕ) → q x ≡ true → p x ≡ false) → all_of q rs ≡ true → p r ≡ true → position_or_len p (rs ++ (r ∷ [])) ≡ length rs
first_last p q [] r says h e = ap (λ (b : Bool). cond (not b) 1 0) e
first_last p q (x ∷ rs) r says h e =
    ap₂ (λ (b : Bool) (n : ℕ). cond (not b) (1 + n) 0) (says x (and_left (q x) (all_of q rs) h)) (first_last p q rs r says (and_right (q x) (all_of q rs) h) e) ∙ omega arith

-- the place of the first one as an option
pub position_none : (p : List ℕ → Bool) (rs : List (List ℕ)) → length rs ≤ position_or_len p rs → position p rs ≡ None
position_none p rs h = ap (λ (b : Bool). cond b (Some (position_or_len p rs)) None) (le-ltb (position_or_len p rs) (length rs) h)

pub position_some : (p : List ℕ → Bool) (rs : List (List ℕ)) (k : ℕ) → position_or_len p rs ≡ k → k < length rs → position p rs ≡ Some k
position_some p rs k e h = ap (λ (b : Bool). cond b (Some (position_or_len p rs)) None) (lt-ltb (position_or_len p rs) (length rs) (omega arith)) ∙ ap Some e

pub found_within : (p : List ℕ → Bool) (rs : List (List ℕ)) (k : ℕ) → Some k ≡ position p rs → k < length rs
found_within p rs k e =
    by_either (ltb (position_or_len p rs) (length rs))
    (λ h. let f : Some k ≡ Some (position_or_len p rs) = e ∙ ap (λ (b : Bool). cond b (Some (position_or_len p rs)) None) h in let same : k ≡ position_or_len p rs = cc in omega (arith, ltb-true (position_or_len p rs) (length rs) h))
    (λ h. let f : Some k ≡ None = e ∙ ap (λ (b : Bool). cond b (Some (position_or_len p rs)) None) h in absurd (cc))

-- the first one that a test holds of, where there is none and where there is one
pub none_found : (p : List ℕ → Bool) (rs : List (List ℕ)) → is_none (position p rs) ≡ true → length rs ≤ position_or_len p rs
none_found p rs e = by_either (ltb (position_or_len p rs) (length rs)) (λ h. clash {b = is_none (position p rs)} e (ap (λ (b : Bool). is_none (cond b (Some (position_or_len p rs)) None)) h)) (λ h. ltb-false (position_or_len p rs) (length rs) h)

pub one_found : (p : List ℕ → Bool) (rs : List (List ℕ)) → is_none (position p rs) ≡ false → (position_or_len p rs < length rs) × ((d : ℕ) → unwrap_or (position p rs) d ≡ position_or_len p rs)
one_found p rs e =
    by_either (ltb (position_or_len p rs) (length rs))
    (λ h. (ltb-true (position_or_len p rs) (length rs) h, λ d. ap (λ (b : Bool). unwrap_or (cond b (Some (position_or_len p rs)) None) d) h))
    (λ h. clash {b = is_none (position p rs)} (ap (λ (b : Bool). is_none (cond b (Some (position_or_len p rs)) None)) h) e)

-- a test holds of all records if another does that says so of each
pub all-within : (p q : List ℕ → Bool) (rs : List (List ℕ)) → ((r : List ℕ) → p r ≡ true → q r ≡ true) → all_of p rs ≡ true → all_of q rs ≡ true
all-within p q [] says h = refl
all-within p q (r ∷ rs) says h = ap₂ (λ (a b : Bool). a && b) (says r (and_left (p r) (all_of p rs) h)) (all-within p q rs says (and_right (p r) (all_of p rs) h))

-- a test that holds of none
pub none-all : (p : List ℕ → Bool) (rs : List (List ℕ)) → count_if p rs ≡ 0 → all_of (λ r. not (p r)) rs ≡ true
unfolding count_if num
none-all p [] h = refl
none-all p (r ∷ rs) h = by_test (p r) h (none-all p rs)
  where
    by_test : (b : Bool) → num b + count_if p rs ≡ 0 → (count_if p rs ≡ 0 → all_of (λ x. not (p x)) rs ≡ true) → not b && all_of (λ x. not (p x)) rs ≡ true
    by_test true k rest = absurd (omega arith)
    by_test false k rest = rest (omega arith)

-- two tests at once
pub all_both : (p q : List ℕ → Bool) (rs : List (List ℕ)) → all_of p rs ≡ true → all_of q rs ≡ true → all_of (λ r. p r && q r) rs ≡ true
all_both p q [] h k = refl
all_both p q (r ∷ rs) h k =
    ap₂ (λ (a b : Bool). a && b) (ap₂ (λ (a b : Bool). a && b) (and_left (p r) (all_of p rs) h) (and_left (q r) (all_of q rs) k)) (all_both p q rs (and_right (p r) (all_of p rs) h) (and_right (q r) (all_of q rs) k))

-- of one record more, of records changed by a function, or where one is another
pub all_snoc : (p : List ℕ → Bool) (rs : List (List ℕ)) (r : List ℕ) → all_of p rs ≡ true → p r ≡ true → all_of p (rs ++ (r ∷ [])) ≡ true
all_snoc p [] r h e = ap (λ (b : Bool). b && true) e
all_snoc p (x ∷ rs) r h e = ap₂ (λ (a b : Bool). a && b) (and_left (p x) (all_of p rs) h) (all_snoc p rs r (and_right (p x) (all_of p rs) h) e)

pub all_map : (p : List ℕ → Bool) (f : List ℕ → List ℕ) (rs : List (List ℕ)) → all_of p (map f rs) ≡ all_of (λ r. p (f r)) rs
all_map p f [] = refl
all_map p f (r ∷ rs) = ap (λ (b : Bool). p (f r) && b) (all_map p f rs)

pub all_set : (p : List ℕ → Bool) (rs : List (List ℕ)) (i : ℕ) (r : List ℕ) → all_of p rs ≡ true → p r ≡ true → all_of p (set rs i r) ≡ true
all_set p [] i r h e = refl
all_set p (x ∷ rs) zero r h e = ap₂ (λ (a b : Bool). a && b) e (and_right (p x) (all_of p rs) h)
all_set p (x ∷ rs) (suc i) r h e = ap₂ (λ (a b : Bool). a && b) (and_left (p x) (all_of p rs) h) (all_set p rs i r (and_right (p x) (all_of p rs) h) e)
