-- The bytes of a record written.
use Prim.Native.Nat.{ℕ, ◌+◌, ◌≤◌}
use mathlib.Core.Path.{◌≡◌, sym, ap, ◌∙◌}
use mathlib.Core.List.{List, ◌++◌, append_assoc}
use native.Mathlib.Omega.{arith}
use lib.ListN.{length, take, drop, length-append, length-drop, take-append-drop}
use lib.Seq.{sets, sets-eq, length-sets, take_at, drop_at, length-take-le, take-append-add}
use Rattle.record.specs.Layout.{record_size, eight_bytes, content_in, set_at, with_set}
use Rattle.record.proofs.StoredSets.{set-put, length-put}
use borrow.Rule.Slice.PartMut.{put_mid}

-- the content of a record, and a record whose content was stored as it was
pub length-content : (r : List ℕ) → length r ≡ record_size → length (take 14 (drop 16 r)) ≡ 14
length-content r e = length-take-le 14 (drop 16 r) (omega (arith, length-drop 16 r))

pub part_kept : (r : List ℕ) → put_mid 16 14 r (take 14 (drop 16 r)) ≡ r
part_kept r = ap (λ (l : List ℕ). take 16 r ++ l) (take-append-drop 14 (drop 16 r)) ∙ take-append-drop 16 r

-- the content as it was stored
pub content-put : (xs b : List ℕ) → length xs ≡ record_size → length b ≡ 14 → content_in (put_mid 16 14 xs b) ≡ b
content-put xs b long bl =
    ap (take 14) (drop_at (take 16 xs) (b ++ drop 14 (drop 16 xs)) 16 (length-take-le 16 xs (omega arith))) ∙ take_at b (drop 14 (drop 16 xs)) 14 bl

-- the bytes before the content and four after it stored one by one, and then the set
module _ (front four r : List ℕ) (n : ℕ) (long : length r ≡ record_size) where
  length-stored : length (sets (sets r 0 front) 30 four) ≡ record_size
  length-stored = length-sets (sets r 0 front) 30 four ∙ length-sets r 0 front ∙ long

  pub length_fields : length (with_set n (sets (sets r 0 front) 30 four)) ≡ record_size
  length_fields = length-put n (sets (sets r 0 front) 30 four) length-stored

  pub fields-put : length front ≡ 16 → length four ≡ 4 → with_set n (sets (sets r 0 front) 30 four) ≡ front ++ (content_in r ++ (four ++ eight_bytes n))
  fields-put fl tl =
      let d = drop 16 r in
      let c = take 14 d in
      let some : 0 + length front ≤ length r = omega arith in
      let first : sets r 0 front ≡ front ++ d = sets-eq front r 0 some ∙ ap (λ (k : ℕ). (take 0 r ++ front) ++ drop (0 + k) r) fl in
      let size : length (front ++ d) ≡ record_size = length-append front d ∙ omega (arith, length-drop 16 r) in
      let inside : 30 + length four ≤ length (front ++ d) = omega arith in
      let middle : take 30 (front ++ d) ≡ front ++ c = ap (λ (k : ℕ). take (k + 14) (front ++ d)) (sym fl) ∙ take-append-add front d 14 in
      let rest = drop (30 + length four) (front ++ d) in
      let all : sets (sets r 0 front) 30 four ≡ ((front ++ c) ++ four) ++ rest =
      ap (λ (l : List ℕ). sets l 30 four) first ∙ sets-eq four (front ++ d) 30 inside ∙ ap (λ (l : List ℕ). (l ++ four) ++ rest) middle in
      let before : length ((front ++ c) ++ four) ≡ set_at = length-append (front ++ c) four ∙ omega (arith, length-append front c, length-content r long) in
      set-put n (sets (sets r 0 front) 30 four) length-stored
      ∙ ap (λ (l : List ℕ). take set_at l ++ eight_bytes n) all
      ∙ ap (λ (l : List ℕ). l ++ eight_bytes n) (take_at ((front ++ c) ++ four) rest set_at before)
      ∙ append_assoc (front ++ c) four (eight_bytes n)
      ∙ append_assoc front c (four ++ eight_bytes n)
