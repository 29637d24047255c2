-- Passes over the records, and over the entries of a list.
use Prim.Native.Nat.{ℕ, suc, ◌+◌, ◌-◌, ◌*◌, ◌/◌, ◌<◌}
use native.Mathlib.Omega.{arith}
use mathlib.Core.Path.{◌≡◌, ap, subst, ◌∙◌}
use mathlib.Core.Bool.{Bool, true, ◌&&◌}
use mathlib.Core.List.{List, [], ◌∷◌, ◌++◌}
use lib.ListN.{length, take, drop, get_or, length-take, length-drop, length-append}
use lib.Seq.{drop-drop, take_at, drop_at, get_or-take, get_or-drop, get_or-append-add}
use Rattle.record.specs.Layout.{record_size}
use Rattle.record.proofs.Ranges.{take_lt}
use Rattle.record.proofs.Zeros.{Bytes}
use Rattle.lent.specs.Records.{chunks, records, all_of}

-- record i
abbrev pub nth : List ℕ → ℕ → List ℕ
nth t i = take record_size (drop (i * record_size) t)

-- the part that is lent for it
module _ (t : List ℕ) (i : ℕ) where
  pub part_is : take (i * record_size + record_size - i * record_size) (drop (i * record_size) t) ≡ nth t i
  part_is = let e : i * record_size + record_size - i * record_size ≡ record_size = omega arith in ap (λ (k : ℕ). take k (drop (i * record_size) t)) e

  pub length_nth : i < length t / record_size → length (nth t i) ≡ record_size
  length_nth h = simp (length-take, length-drop) (omega arith)

  pub length_part : i < length t / record_size → length (take (i * record_size + record_size - i * record_size) (drop (i * record_size) t)) ≡ record_size
  length_part h = ap length part_is ∙ length_nth h

  pub byte_is : (j : ℕ) → j < record_size → get_or (nth t i) j 0 ≡ get_or t (i * record_size + j) 0
  byte_is j h = get_or-take record_size (drop (i * record_size) t) j 0 h ∙ get_or-drop (i * record_size) t j 0

  pub first_byte : get_or (nth t i) 0 0 ≡ get_or t (i * record_size) 0
  first_byte = let z : i * record_size + 0 ≡ i * record_size = omega arith in byte_is 0 (omega arith) ∙ ap (λ (k : ℕ). get_or t k 0) z

-- record i and those after it
pub rest_of : (n i : ℕ) (t : List ℕ) → i < n → chunks (n - i) (drop (i * record_size) t) ≡ nth t i ∷ chunks (n - (i + 1)) (drop ((i + 1) * record_size) t)
unfolding chunks
rest_of n i t h =
    let m : n - i ≡ suc (n - (i + 1)) = omega arith in
    let k : i * record_size + record_size ≡ (i + 1) * record_size = omega arith in
    ap (λ (x : ℕ). chunks x (drop (i * record_size) t)) m ∙ ap (λ (l : List ℕ). nth t i ∷ chunks (n - (i + 1)) l) (drop-drop record_size (i * record_size) t ∙ ap (λ (x : ℕ). drop x t) k)

pub rest-whole : (n : ℕ) (t : List ℕ) → chunks (n - 0) (drop (0 * record_size) t) ≡ chunks n t
rest-whole n t = let e : n - 0 ≡ n = omega arith in ap (λ (m : ℕ). chunks m t) e

pub rest-none : (n i : ℕ) (t : List ℕ) → i ≡ n → chunks (n - i) t ≡ []
unfolding chunks
rest-none n i t e = let z : n - i ≡ 0 = omega arith in ap (λ (m : ℕ). chunks m t) z

-- a test of every record
module _ (p : List ℕ → Bool) (n i : ℕ) (t : List ℕ) where
  pub all-next : i < n → all_of p (chunks (n - i) (drop (i * record_size) t)) ≡ p (nth t i) && all_of p (chunks (n - (i + 1)) (drop ((i + 1) * record_size) t))
  all-next h = ap (all_of p) (rest_of n i t h)

  pub all_end : i ≡ n → all_of p (chunks (n - i) (drop (i * record_size) t)) ≡ true
  all_end e = ap (all_of p) (rest-none n i (drop (i * record_size) t) e)

-- the records of bytes that begin with one, and of too few bytes
pub records_cons : (x t : List ℕ) → length x ≡ record_size → records (x ++ t) ≡ x ∷ records t
unfolding records chunks
records_cons x t long =
    let n : length (x ++ t) / record_size ≡ suc (length t / record_size) = omega (arith, length-append x t) in
    ap (λ (m : ℕ). chunks m (x ++ t)) n ∙ (λ i. take_at x t record_size long i ∷ chunks (length t / record_size) (drop_at x t record_size long i))

pub records_none : (t : List ℕ) → length t < record_size → records t ≡ []
unfolding records chunks
records_none t short = let n : length t / record_size ≡ 0 = omega arith in ap (λ (m : ℕ). chunks m t) n

-- the bytes of the first record, and those after it
module _ (x t : List ℕ) (long : length x ≡ record_size) (bytes : Bytes (x ++ t)) where
  pub first_bytes : Bytes x
  first_bytes k = subst (λ (l : List ℕ). get_or l k 0 < 256) (take_at x t record_size long) (take_lt record_size 0 (x ++ t) k bytes)

  pub later_bytes : Bytes t
  later_bytes k = subst (λ (n : ℕ). n < 256) (get_or-append-add x t k 0) (bytes (length x + k))
