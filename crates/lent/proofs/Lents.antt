-- What a table, a catalogue and lives that fit say.
use Prim.Native.Nat.{ℕ, zero, suc, ◌+◌, ◌*◌, ◌/◌, ◌%◌, ◌≤◌, ◌<◌}
use native.Mathlib.Omega.{arith}
use mathlib.Core.Path.{◌≡◌, refl, ap, ◌∙◌}
use mathlib.Core.Bool.{Bool, true, false, not, ◌&&◌, ◌||◌}
use mathlib.Core.List.{List, [], ◌∷◌}
use lib.ListN.{length, take, drop, get_or, get_or-eq_default}
use lib.Seq.{drop-drop}
use lib.Dec.{leb, ltb, eqb}
use borrow.Author.Tests.{eqb-true, eqb-false, leb-true, ltb-true, ltb-false}
use Rattle.bits.proofs.Choice.{and_left, and_right}
use Rattle.clock.specs.Time.{longest_life}
use Rattle.record.specs.Layout.{record_size, free_record}
use Rattle.record.specs.WellFormed.{well_formed}
use Rattle.lent.specs.Records.{chunks, records, all_of}
use Rattle.lent.specs.Table.{sized, table_fits}
use Rattle.lent.specs.Catalogue.{class_of, has_class, entry_fits, catalogue_fits}
use Rattle.lent.specs.Lives.{lives_fit}
use Rattle.lent.specs.Lent.{lent_fit}
use Rattle.lent.proofs.Passes.{nth}

pub table_whole : (t : List ℕ) → table_fits t ≡ true → length t % record_size ≡ 0
unfolding table_fits sized
table_whole t h =
    let last = eqb (length t % record_size) 0 in
    let s = and_left (leb record_size (length t) && (leb (length t) (1024 * record_size) && last)) (all_of well_formed (records t)) h in
    eqb-true (length t % record_size) 0 (and_right (leb (length t) (1024 * record_size)) last (and_right (leb record_size (length t)) (leb (length t) (1024 * record_size) && last) s))

-- it has a record at least
pub table_some : (t : List ℕ) → table_fits t ≡ true → 0 < length t / record_size
unfolding table_fits sized
table_some t h =
    let rest = leb (length t) (1024 * record_size) && eqb (length t % record_size) 0 in
    let some = leb-true record_size (length t) (and_left (leb record_size (length t)) rest (and_left (leb record_size (length t) && rest) (all_of well_formed (records t)) h)) in
    omega arith

pub table_records : (t : List ℕ) → table_fits t ≡ true → all_of well_formed (records t) ≡ true
unfolding table_fits
table_records t h = and_right (sized t) (all_of well_formed (records t)) h

nth_next : (t : List ℕ) (i : ℕ) → nth (drop record_size t) i ≡ nth t (suc i)
nth_next t i = let e : record_size + i * record_size ≡ suc i * record_size = omega arith in ap (take record_size) (drop-drop (i * record_size) record_size t ∙ ap (λ (k : ℕ). drop k t) e)

pub chunk_at : (n i : ℕ) (t : List ℕ) → i < n → get_or (chunks n t) i free_record ≡ nth t i
unfolding chunks
chunk_at zero i t h = absurd (omega arith)
chunk_at (suc n) zero t h = refl
chunk_at (suc n) (suc i) t h = chunk_at n i (drop record_size t) (omega arith) ∙ nth_next t i

-- a test that holds of every one holds of each
pub all_at : {A : Type 0} (p : A → Bool) (xs : List A) (i : ℕ) (d : A) → all_of p xs ≡ true → i < length xs → p (get_or xs i d) ≡ true
all_at p [] i d a h = absurd (omega arith)
all_at p (x ∷ xs) zero d a h = and_left (p x) (all_of p xs) a
all_at p (x ∷ xs) (suc i) d a h = all_at p xs i d (and_right (p x) (all_of p xs) a) (omega arith)

-- an event that has an update class has one other than 0
pub class-some : (x : ℕ) → entry_fits x ≡ true → has_class x ≡ true → 1 ≤ class_of x
unfolding entry_fits
class-some x h has = by_class (eqb (class_of x) 0) refl (and_right (ltb x 512) _ h)
  where
    by_class : (b : Bool) → eqb (class_of x) 0 ≡ b → b && not (has_class x) || not b && has_class x ≡ true → 1 ≤ class_of x
    by_class true e k = let none : not (has_class x) || false ≡ false = ap (λ (c : Bool). not c || false) has in absurd (cc)
    by_class false e k = let some = eqb-false (class_of x) 0 e in omega arith

-- an entry of a catalogue that fits; past its end is that of an unknown event
pub catalogue_entry : (c : List ℕ) (i : ℕ) → catalogue_fits c ≡ true → entry_fits (get_or c i 0) ≡ true
unfolding catalogue_fits entry_fits
catalogue_entry c i h = by_end (ltb i (length c)) refl
  where
    by_end : (b : Bool) → ltb i (length c) ≡ b → entry_fits (get_or c i 0) ≡ true
    by_end true e = all_at entry_fits c i 0 (and_right (eqb (length c) 2048) (all_of entry_fits c) h) (ltb-true i (length c) e)
    by_end false e = ap entry_fits (get_or-eq_default c 0 {n = i} (ltb-false i (length c) e))

module _ (t c l : List ℕ) (h : lent_fit t c l ≡ true) where
  pub lent_table : table_fits t ≡ true
  unfolding lent_fit
  lent_table = and_left (table_fits t) (catalogue_fits c && lives_fit l) h

  lent_rest : catalogue_fits c && lives_fit l ≡ true
  unfolding lent_fit
  lent_rest = and_right (table_fits t) (catalogue_fits c && lives_fit l) h

  pub lent_whole : length t % record_size ≡ 0
  lent_whole = table_whole t lent_table

  pub lent_catalogue : catalogue_fits c ≡ true
  lent_catalogue = and_left (catalogue_fits c) (lives_fit l) lent_rest

  pub lent_events : length c ≡ 2048
  unfolding catalogue_fits
  lent_events = eqb-true (length c) 2048 (and_left (eqb (length c) 2048) (all_of entry_fits c) lent_catalogue)

  lent_lives_fit : eqb (length l) 16 && all_of (λ x. leb x longest_life) l ≡ true
  unfolding lives_fit
  lent_lives_fit = and_right (catalogue_fits c) (lives_fit l) lent_rest

  pub lent_lives : length l ≡ 16
  lent_lives = eqb-true (length l) 16 (and_left (eqb (length l) 16) (all_of (λ x. leb x longest_life) l) lent_lives_fit)

  pub life_short : (i : ℕ) → i < length l → get_or l i 0 ≤ longest_life
  life_short i k = leb-true (get_or l i 0) longest_life (all_at (λ x. leb x longest_life) l i 0 (and_right (eqb (length l) 16) (all_of (λ x. leb x longest_life) l) lent_lives_fit) k)
