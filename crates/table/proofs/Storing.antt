-- A record stored in a place.
use Prim.Native.Nat.{ℕ, zero, suc, ◌+◌, ◌-◌, ◌*◌, ◌/◌, ◌%◌, ◌<◌}
use native.Mathlib.Omega.{arith}
use mathlib.Core.Path.{◌≡◌, refl, sym, ap, ap₂, ◌∙◌}
use mathlib.Core.List.{List, [], ◌∷◌, ◌++◌, append_assoc}
use lib.ListN.{length, take, drop, set, length-drop, take-append-drop}
use lib.Seq.{take-add, drop-drop, take_at, drop_at, length-take-le}
use borrow.Rule.Slice.PartMut.{put_mid, same_len_mid}
use Rattle.bits.specs.Lists.{joined}
use Rattle.record.specs.Layout.{record_size}
use Rattle.lent.specs.Records.{chunks, records}
use Rattle.lent.proofs.Passes.{part_is, length_nth}
use Rattle.table.specs.Records.{stored}

pub joined-chunks : (n : ℕ) (t : List ℕ) → length t ≡ n * record_size → joined (chunks n t) ≡ t
unfolding joined chunks
joined-chunks zero [] e = refl
joined-chunks zero (x ∷ t) e = absurd (omega arith)
joined-chunks (suc n) t e =
    let rest : length (drop record_size t) ≡ n * record_size = omega (arith, length-drop record_size t) in
    ap (λ (l : List ℕ). take record_size t ++ l) (joined-chunks n (drop record_size t) rest) ∙ take-append-drop record_size t

pub joined-records : (t : List ℕ) → length t % record_size ≡ 0 → joined (records t) ≡ t
unfolding records
joined-records t whole = joined-chunks (length t / record_size) t (omega arith)

put-set : (n i : ℕ) (t r : List ℕ) → length t ≡ n * record_size → i < n → take (i * record_size) t ++ (r ++ drop record_size (drop (i * record_size) t)) ≡ joined (set (chunks n t) i r)
unfolding joined chunks
put-set zero i t r e h = absurd (omega arith)
put-set (suc n) zero t r e h =
    let rest : length (drop record_size t) ≡ n * record_size = omega (arith, length-drop record_size t) in
    ap (λ (l : List ℕ). r ++ l) (sym (joined-chunks n (drop record_size t) rest))
put-set (suc n) (suc i) t r e h =
    let rest : length (drop record_size t) ≡ n * record_size = omega (arith, length-drop record_size t) in
    let k : suc i * record_size ≡ record_size + i * record_size = omega arith in
    let d = drop record_size t in
    ap (λ (m : ℕ). take m t ++ (r ++ drop record_size (drop m t))) k
    ∙ ap₂ (λ (x y : List ℕ). x ++ (r ++ drop record_size y)) (take-add record_size (i * record_size) t) (sym (drop-drop (i * record_size) record_size t))
    ∙ append_assoc (take record_size t) (take (i * record_size) d) (r ++ drop record_size (drop (i * record_size) d))
    ∙ ap (λ (l : List ℕ). take record_size t ++ l) (put-set n i d r rest (omega arith))

-- records of their size, joined and taken apart again
chunks-set : (n i : ℕ) (t r : List ℕ) → length t ≡ n * record_size → length r ≡ record_size → i < n → chunks n (joined (set (chunks n t) i r)) ≡ set (chunks n t) i r
unfolding joined chunks
chunks-set zero i t r e long k = absurd (omega arith)
chunks-set (suc n) zero t r e long k =
    let rest : length (drop record_size t) ≡ n * record_size = omega (arith, length-drop record_size t) in
    let js = joined (chunks n (drop record_size t)) in
    ap₂ (λ (x y : List ℕ). x ∷ chunks n y) (take_at r js record_size long) (drop_at r js record_size long ∙ joined-chunks n (drop record_size t) rest)
chunks-set (suc n) (suc i) t r e long k =
    let one : length (take record_size t) ≡ record_size = length-take-le record_size t (omega arith) in
    let rest : length (drop record_size t) ≡ n * record_size = omega (arith, length-drop record_size t) in
    let js = joined (set (chunks n (drop record_size t)) i r) in
    ap₂ (λ (x y : List ℕ). x ∷ chunks n y) (take_at (take record_size t) js record_size one) (drop_at (take record_size t) js record_size one) ∙ ap (λ (l : List (List ℕ)). take record_size t ∷ l) (chunks-set n i (drop record_size t) r rest long (omega arith))

module _ (t r : List ℕ) (i : ℕ) (whole : length t % record_size ≡ 0) (inside : i < length t / record_size) where
  pub put-stored : put_mid (i * record_size) (i * record_size + record_size - i * record_size) t r ≡ stored t i r
  unfolding stored records
  put-stored =
      let k : i * record_size + record_size - i * record_size ≡ record_size = omega arith in
      ap (λ (m : ℕ). put_mid (i * record_size) m t r) k ∙ put-set (length t / record_size) i t r (omega arith) inside

  module _ (long : length r ≡ record_size) where
    pub length-stored : length (stored t i r) ≡ length t
    length-stored =
        ap length (sym put-stored) ∙ same_len_mid (i * record_size) (i * record_size + record_size - i * record_size) t r (long ∙ sym (ap length (part_is t i) ∙ length_nth t i inside))

    -- no other record changes
    pub records-stored : records (stored t i r) ≡ set (records t) i r
    unfolding records stored
    records-stored = ap (λ (n : ℕ). chunks (n / record_size) (stored t i r)) length-stored ∙ chunks-set (length t / record_size) i t r (omega arith) long inside
