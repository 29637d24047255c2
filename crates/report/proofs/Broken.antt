-- Where the content of a message breaks: a refusal has a place exactly if the content breaks there, and then the number is 7 or 8.
use Prim.Native.Nat.{ℕ, ◌+◌, ◌-◌, ◌≤◌}
use native.Mathlib.Omega.{arith}
use mathlib.Core.Path.{◌≡◌, refl, sym, ap, subst, ◌∙◌}
use mathlib.Core.Logic.{◌↔◌}
use mathlib.Core.Bool.{Bool, true}
use mathlib.Core.List.{List}
use lib.ListN.{length, take, drop, length-drop}
use Rattle.bits.specs.Bits.{val}
use Rattle.std.specs.Prelude.{Ok, Err}
use Rattle.refusal.specs.declared.Refusal.{Refusal}
use Rattle.refusal.specs.declared.Refusal.TheVariants.{WrongLength}
use Rattle.bits.proofs.Outcomes.{refused-gives-none}
use Rattle.bits.proofs.Choice.{either}
use Rattle.word.specs.declared.Head.{Head}
use Rattle.content.specs.declared.read.Unread.TheVariants as unread
use Rattle.content.specs.Items.{broken}
use Rattle.content.specs.Items as content
use Rattle.content.specs.Content.{content_length, content}
use Rattle.content.specs.Packing.{longest}
use Rattle.content.specs.Broken.{BreaksAt}
use Rattle.content.proofs.Lengths.{content-items, content_length_le}
use Rattle.content.proofs.Broken.{breaks, content-broken, counted, uncounted, place_after, place_lt}
use Rattle.report.specs.declared.Unreadable.{Unreadable}
use Rattle.report.specs.declared.Unreadable.TheVariants.{Refused, Broken}
use Rattle.report.specs.declared.Form.TheVariants.{Multi}
use Rattle.report.specs.InterRoad.{items_at}
use Rattle.report.specs.Read.{Reading, placed, read_items, read_bits}
use Rattle.report.proofs.Places.{place_small}
use Rattle.report.proofs.Wholes.{length_between, items-read, items_refused, whole-read, whole-refused}

same-refusal : {x y : Unreadable} → ◌≡◌ {A = Reading} (Err x) (Err y) → x ≡ y
same-refusal {x} {y} e = cc

refused_is_not_broken : {k refusal : Refusal} {place : ℕ} → Refused k ≡ Broken refusal place → ⊥
refused_is_not_broken {k} {refusal} {place} e = let z : ◌≡◌ {A = ℕ} 0 1 = cc in omega arith

-- items that are the last of `whole` bits
module _ (h : Head) (real whole : ℕ) (l : List Bool) (refusal : Refusal) (place : ℕ) where
  -- the bits left, and the place before them
  record Left : Type 0 where
    left : ℕ
    reading : content l ≡ Err (unread.Broken (broken refusal left))
    before : whole - left ≡ place

  items_left : read_items h real whole l ≡ Err (Broken refusal place) → Left
  unfolding placed
  items_left e = by_reading (content l) refl
    where
      by_reading : (x : content.Reading) → content l ≡ x → Left
      by_reading (Ok its) c = absurd (refused-gives-none (sym e ∙ items-read h real whole l its c))
      by_reading (Err unread.TooLong) c = absurd (refused_is_not_broken (same-refusal (sym (items_refused h real whole l unread.TooLong c) ∙ e)))
      by_reading (Err (unread.Broken b)) c =
          let same : Broken b.refusal (whole - b.left) ≡ Broken refusal place = same-refusal (sym (items_refused h real whole l (unread.Broken b) c) ∙ e) in
          let number : b.refusal ≡ refusal = cc in
          record { left = b.left; reading = c ∙ ap (λ (r : Refusal). Err (unread.Broken (broken r b.left))) number; before = cc }

-- items that begin at bit `at` of the whole content
module _ (h : Head) (real at : ℕ) (l : List Bool) (refusal : Refusal) (place : ℕ) (in-l : at ≤ length l) (short : length l ≤ longest) where
  abbrev rest : List Bool
  rest = drop at l

  size : length rest ≡ length l - at
  size = length-drop at l

  there : read_items h real (length l) rest ≡ Err (Broken refusal place) → BreaksAt at l place refusal
  there e =
      let x = items_left h real (length l) rest refusal place e in
      let b = (breaks rest refusal x.left).0 (content-broken rest (broken refusal x.left) x.reading).1 in
      let sum : at + (length rest - x.left) ≡ place = omega (arith, size, b.0, x.before) in
      subst (λ (p : ℕ). BreaksAt at l p refusal) sum (counted at l in-l (length rest - x.left) refusal b.1)

  back : BreaksAt at l place refusal → read_items h real (length l) rest ≡ Err (Broken refusal place)
  unfolding placed
  back b =
      let here = place_lt at l place refusal b in
      let after = place_after at l in-l place refusal b in
      let left = length l - place in
      let s = size in
      let sum : place ≡ at + (length rest - left) = omega arith in
      let less : length l - left ≡ place = omega arith in
      let c = uncounted at l in-l (length rest - left) refusal (subst (λ (p : ℕ). BreaksAt at l p refusal) sum b) in
      items_refused h real (length l) rest (unread.Broken (broken refusal left)) (content-items rest (omega arith) ∙ (breaks rest refusal left).1 (omega arith, c))
      ∙ ap (λ (p : ℕ). Err (Broken refusal p)) less

  pub items_break : read_items h real (length l) rest ≡ Err (Broken refusal place) ↔ BreaksAt at l place refusal
  items_break = (there, back)

-- a message: its content has the bits of two to five groups, and those of a real location are counted
pub message_breaks : (h : Head) (l : List Bool) (refusal : Refusal) (place : ℕ)
    → read_bits h l ≡ Err (Broken refusal place) ↔ ((content_length (length l) ≡ true) × BreaksAt (items_at Multi h) l place refusal)
message_breaks h l refusal place = (
  λ e. either (content_length (length l))
      (λ w. (w, (both w).0 (sym (whole-read h l w) ∙ e)))
      (λ f. absurd (refused_is_not_broken (same-refusal (sym (whole-refused h l f) ∙ e)))),
  λ b. whole-read h l b.0 ∙ (both b.0).1 b.1,
)
  where
    both : content_length (length l) ≡ true
        → read_items h (val (take (items_at Multi h) l)) (length l) (drop (items_at Multi h) l) ≡ Err (Broken refusal place) ↔ BreaksAt (items_at Multi h) l place refusal
    both w =
        let small = place_small Multi h in
        let long = length_between (length l) w in
        items_break h _ (items_at Multi h) l refusal place (omega arith) (content_length_le (length l) w)

-- every other refusal is of the length
pub message_plain : (h : Head) (l : List Bool) (refusal : Refusal) → read_bits h l ≡ Err (Refused refusal) → refusal ≡ WrongLength
unfolding placed
message_plain h l refusal e =
    either (content_length (length l))
    (λ w. by_reading (sym (whole-read h l w) ∙ e) (content rest) refl)
    (λ f. same_number (same-refusal (sym (whole-refused h l f) ∙ e)))
  where
    rest : List Bool
    rest = drop (items_at Multi h) l

    real : ℕ
    real = val (take (items_at Multi h) l)

    same_number : Refused WrongLength ≡ Refused refusal → refusal ≡ WrongLength
    same_number same = cc

    by_reading : read_items h real (length l) rest ≡ Err (Refused refusal) → (x : content.Reading) → content rest ≡ x → refusal ≡ WrongLength
    by_reading r (Ok its) c = absurd (refused-gives-none (sym r ∙ items-read h real (length l) rest its c))
    by_reading r (Err unread.TooLong) c = same_number (same-refusal (sym (items_refused h real (length l) rest unread.TooLong c) ∙ r))
    by_reading r (Err (unread.Broken b)) c = absurd (refused_is_not_broken (same-refusal (sym r ∙ items_refused h real (length l) rest (unread.Broken b) c)))
