-- A pass over the records, for any function of a record that keeps its length: what it has changed, and what it leaves.
use Prim.Native.Nat.{ℕ, zero, suc, ◌+◌, ◌-◌, ◌*◌, ◌/◌, ◌%◌, ◌≤◌, ◌<◌}
use native.Mathlib.Numerals.{add-one}
use native.Mathlib.Omega.{arith}
use mathlib.Core.Path.{◌≡◌, refl, sym, ap, ap₂, ◌∙◌}
use mathlib.Core.Bool.{Bool}
use mathlib.Core.List.{List, [], ◌∷◌, ◌++◌, map, append-nil, append_assoc}
use lib.ListN.{length, take, drop, length-append, length-drop, drop_of_length-le}
use lib.Seq.{drop-drop, take_at, drop_at, length-take-le}
use borrow.Rule.Slice.PartMut.{put_mid}
use Rattle.bits.specs.Lists.{joined}
use Rattle.bits.specs.Bits.{num}
use Rattle.record.specs.Layout.{record_size}
use Rattle.lent.specs.Records.{chunks, records}
use Rattle.lent.proofs.Passes.{nth, part_is, length_nth}
use Rattle.table.specs.Records.{count_if, over, count_where}
use Rattle.table.proofs.Counts.{count_snoc}

-- a function of a record that keeps its length
abbrev pub Keeps : (List ℕ → List ℕ) → Type 0
Keeps f = (r : List ℕ) → length r ≡ record_size → length (f r) ≡ record_size

pub map-map : (g f h : List ℕ → List ℕ) (rs : List (List ℕ)) → ((r : List ℕ) → g (f r) ≡ h r) → map g (map f rs) ≡ map h rs
map-map g f h [] same = refl
map-map g f h (r ∷ rs) same = ap₂ (λ (x : List ℕ) (xs : List (List ℕ)). x ∷ xs) (same r) (map-map g f h rs same)

pub length-chunks : (n : ℕ) (t : List ℕ) → length (chunks n t) ≡ n
unfolding chunks
length-chunks zero t = refl
length-chunks (suc n) t = ap suc (length-chunks n (drop record_size t))

pub length-records : (t : List ℕ) → length (records t) ≡ length t / record_size
unfolding records
length-records t = length-chunks (length t / record_size) t

pub chunks-suc : (i : ℕ) (t : List ℕ) → chunks (suc i) t ≡ chunks i t ++ (nth t i ∷ [])
unfolding chunks
chunks-suc zero t = refl
chunks-suc (suc i) t =
    let e : record_size + i * record_size ≡ suc i * record_size = omega arith in
    ap (λ (l : List (List ℕ)). take record_size t ∷ l) (chunks-suc i (drop record_size t) ∙ ap (λ (l : List ℕ). chunks i (drop record_size t) ++ (take record_size l ∷ [])) (drop-drop (i * record_size) record_size t ∙ ap (λ (k : ℕ). drop k t) e))

chunks_snoc : (i : ℕ) (t : List ℕ) → chunks (i + 1) t ≡ chunks i t ++ (nth t i ∷ [])
chunks_snoc i t = ap (λ (n : ℕ). chunks n t) (add-one i) ∙ chunks-suc i t

joined_snoc : (f : List ℕ → List ℕ) (rs : List (List ℕ)) (r : List ℕ) → joined (map f (rs ++ (r ∷ []))) ≡ joined (map f rs) ++ f r
unfolding joined
joined_snoc f [] r = append-nil (f r)
joined_snoc f (x ∷ rs) r = ap (λ (l : List ℕ). f x ++ l) (joined_snoc f rs r) ∙ sym (append_assoc (f x) (joined (map f rs)) (f r))

-- a part after what is written already
next_part : (a k : ℕ) (p q ys : List ℕ) → length p ≡ a → put_mid a k (p ++ q) ys ≡ (p ++ ys) ++ drop k q
next_part a k p q ys e =
    ap₂ (λ (x y : List ℕ). x ++ (ys ++ drop k y)) (take_at p q a e) (drop_at p q a e) ∙ sym (append_assoc p ys (drop k q))

-- after i records
abbrev pub swept : (List ℕ → List ℕ) → ℕ → List ℕ → List ℕ
swept f i t = joined (map f (chunks i t)) ++ drop (i * record_size) t

pub swept_none : (f : List ℕ → List ℕ) (t : List ℕ) → t ≡ swept f 0 t
unfolding joined chunks
swept_none f t = refl

pub counted-all : (p : List ℕ → Bool) (i : ℕ) (t : List ℕ) → i ≡ length t / record_size → count_if p (chunks i t) ≡ count_where p t
unfolding count_where records
counted-all p i t e = ap (λ (n : ℕ). count_if p (chunks n t)) e

module _ (f : List ℕ → List ℕ) (keeps : Keeps f) where
  length-joined : (i : ℕ) (t : List ℕ) → i * record_size ≤ length t → length (joined (map f (chunks i t))) ≡ i * record_size
  unfolding joined chunks
  length-joined zero t h = refl
  length-joined (suc i) t h =
      let one : length (take record_size t) ≡ record_size = length-take-le record_size t (omega arith) in
      let fits : i * record_size ≤ length (drop record_size t) = omega (arith, length-drop record_size t) in
      length-append (f (take record_size t)) (joined (map f (chunks i (drop record_size t)))) ∙ omega (arith, length-joined i (drop record_size t) fits, keeps (take record_size t) one)

  chunks-joined : (n : ℕ) (t : List ℕ) → n * record_size ≤ length t → chunks n (joined (map f (chunks n t))) ≡ map f (chunks n t)
  unfolding joined chunks
  chunks-joined zero t h = refl
  chunks-joined (suc n) t h =
      let rest : n * record_size ≤ length (drop record_size t) = omega (arith, length-drop record_size t) in
      let r = f (take record_size t) in
      let rs = joined (map f (chunks n (drop record_size t))) in
      let long = keeps (take record_size t) (length-take-le record_size t (omega arith)) in
      ap₂ (λ (x y : List ℕ). x ∷ chunks n y) (take_at r rs record_size long) (drop_at r rs record_size long) ∙ ap (λ (l : List (List ℕ)). r ∷ l) (chunks-joined n (drop record_size t) rest)

  pub length_swept : (i : ℕ) (t : List ℕ) → i ≤ length t / record_size → length (swept f i t) ≡ length t
  length_swept i t h =
      let fits : i * record_size ≤ length t = omega arith in
      length-append (joined (map f (chunks i t))) (drop (i * record_size) t) ∙ omega (arith, length-joined i t fits, length-drop (i * record_size) t)

  -- one record more
  module _ (i : ℕ) (t₀ t : List ℕ) (inside : i < length t₀ / record_size) (e : t ≡ swept f i t₀) where
    before : List ℕ
    before = joined (map f (chunks i t₀))

    length_before : length before ≡ i * record_size
    unfolding before
    length_before = length-joined i t₀ (omega arith)

    rest : drop (i * record_size) t ≡ drop (i * record_size) t₀
    unfolding before
    rest = ap (drop (i * record_size)) e ∙ drop_at before (drop (i * record_size) t₀) (i * record_size) length_before

    -- it is as it was
    pub same_record : take (i * record_size + record_size - i * record_size) (drop (i * record_size) t) ≡ nth t₀ i
    same_record = ap (take (i * record_size + record_size - i * record_size)) rest ∙ part_is t₀ i

    pub part_sized : length (take (i * record_size + record_size - i * record_size) (drop (i * record_size) t)) ≡ record_size
    part_sized = ap length same_record ∙ length_nth t₀ i inside

    pub swept_next : (ys : List ℕ) → ys ≡ f (take (i * record_size + record_size - i * record_size) (drop (i * record_size) t)) → put_mid (i * record_size) (i * record_size + record_size - i * record_size) t ys ≡ swept f (i + 1) t₀
    unfolding before
    swept_next ys h =
        let k : i * record_size + record_size - i * record_size ≡ record_size = omega arith in
        let a : i * record_size + record_size ≡ (i + 1) * record_size = omega arith in
        ap₂ (λ (n : ℕ) (l : List ℕ). put_mid (i * record_size) n l ys) k e
        ∙ next_part (i * record_size) record_size before (drop (i * record_size) t₀) ys length_before
        ∙ ap₂ (λ (x y : List ℕ). (before ++ x) ++ y) (h ∙ ap f same_record) (drop-drop record_size (i * record_size) t₀ ∙ ap (λ (n : ℕ). drop n t₀) a)
        ∙ ap (λ (l : List ℕ). l ++ drop ((i + 1) * record_size) t₀) (sym (ap (λ (rs : List (List ℕ)). joined (map f rs)) (chunks_snoc i t₀) ∙ joined_snoc f (chunks i t₀) (nth t₀ i)))

    pub count_next : (q : List ℕ → Bool) (n : ℕ) → n ≡ num (q (take (i * record_size + record_size - i * record_size) (drop (i * record_size) t))) → count_if q (chunks i t₀) + n ≡ count_if q (chunks (i + 1) t₀)
    count_next q n h =
        ap (λ (m : ℕ). count_if q (chunks i t₀) + m) (h ∙ ap (λ (r : List ℕ). num (q r)) same_record)
        ∙ sym (ap (count_if q) (chunks_snoc i t₀) ∙ count_snoc q (chunks i t₀) (nth t₀ i))

  -- after all of them
  module _ (t : List ℕ) (whole : length t % record_size ≡ 0) where
    fits : length t / record_size * record_size ≤ length t
    fits = omega arith

    pub swept_all : (i : ℕ) → i ≡ length t / record_size → swept f i t ≡ over f t
    unfolding over records
    swept_all i e =
        let all : length t ≤ i * record_size = omega arith in
        ap (λ (l : List ℕ). joined (map f (chunks i t)) ++ l) (drop_of_length-le t all) ∙ append-nil (joined (map f (chunks i t))) ∙ ap (λ (n : ℕ). joined (map f (chunks n t))) e

    pub length_over : length (over f t) ≡ length t
    unfolding over records
    length_over = length-joined (length t / record_size) t fits ∙ omega arith

    pub records-over : records (over f t) ≡ map f (records t)
    unfolding records over
    records-over = ap (λ (n : ℕ). chunks (n / record_size) (over f t)) length_over ∙ chunks-joined (length t / record_size) t fits

    -- one pass after another
    pub over-over : (g h : List ℕ → List ℕ) → ((r : List ℕ) → g (f r) ≡ h r) → over g (over f t) ≡ over h t
    unfolding over
    over-over g h same = ap joined (ap (map g) records-over ∙ map-map g f h (records t) same)
