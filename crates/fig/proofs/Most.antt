-- A FIG has one word or more and at most so many as its width allows (`most_words_lem`), and with room for as many it is not refused for want of
-- room (`enough_room`).
use Prim.Native.Nat.{ℕ, ◌-◌, ◌*◌, ◌≤◌}
use native.Mathlib.Omega.{arith}
use mathlib.Core.Path.{◌≡◌, refl, sym, subst}
use mathlib.Core.Bool.{Bool, true, false, ◌&&◌, cond}
use mathlib.Core.List.{List}
use lib.ListN.{length, drop, length-drop}
use lib.Dec.{leb, eqb}
use borrow.Author.Tests.{leb-false}
use Rattle.std.specs.Prelude.{Result, Ok, Err, IfErr, ⊤}
use Rattle.refusal.specs.declared.Refusal.{Refusal}
use Rattle.refusal.specs.declared.Refusal.TheVariants.{WrongLength, OtherKind, Reserved, SmallBuffer}
use Rattle.bits.specs.Bits.{all_zero}
use Rattle.refusal.proofs.Checks.{by_check}
use Rattle.fig.specs.declared.Fig.{Fig}
use Rattle.fig.specs.declared.Reading.{Reading}
use Rattle.fig.specs.Format.{type_in, following_in, d2_in, extension_in, word_width, most_words}
use Rattle.fig.specs.Read.{fields, fig_of, count_of, padding, length_fits, check_fields, check_head, check_data, read_data, read_fig}
use Rattle.fig.proofs.Header.{length_fits as header_length_fits}
use Rattle.fig.proofs.Data.{all_bits}
use Rattle.fig.proofs.Answers.{by_refusal, taken-head, taken-fig, taken-count, taken-some}

-- what 28 bytes hold
few : (t : Bool) (n : ℕ) → n * cond t 37 16 ≤ 224 → n ≤ cond t 6 14
few true n h = omega arith
few false n h = omega arith

module _ (s : List ℕ) where
  abbrev width : ℕ
  width = word_width (fig_of (fields s)).d1

  few_words : check_head s ≡ Ok tt → count_of width (drop 2 s) ≤ most_words (fig_of (fields s)).d1
  unfolding word_width most_words
  few_words e = few (eqb (fig_of (fields s)).d1 0) (count_of width (drop 2 s)) (omega (arith, all_bits width (drop 2 s), length-drop 2 s, header_length_fits s e))

  pub most_words_lem : (room : ℕ) (r : Reading) → read_fig s room ≡ Ok r → (1 ≤ r.count) × (r.count ≤ most_words r.fig.d1)
  most_words_lem room r e =
      let few : r.count ≤ most_words (fig_of (fields s)).d1 = omega (arith, taken-count s room r e, few_words (taken-head s room r e)) in
      (taken-some s room r e, subst (λ (f : Fig). r.count ≤ most_words f.d1) (sym (taken-fig s room r e)) few)

  -- a refusal, if there is one, is not for want of room
  abbrev Other : Result ⊤ Refusal → Type 0
  Other r = IfErr r (λ refusal. refusal ≡ SmallBuffer → ⊥)

  head_other : Other (check_head s)
  unfolding check_head check_fields
  head_other =
      let f = fields s in
      by_check Other (leb 2 (length s) && leb (length s) 30) WrongLength _ (λ _ e. absurd (cc))
      (by_check Other (eqb (type_in f) 5) OtherKind _ (λ _ e. absurd (cc))
      (by_check Other (eqb (following_in f) (length s - 1)) WrongLength _ (λ _ e. absurd (cc))
      (by_check Other (eqb (extension_in f) 1) OtherKind _ (λ _ e. absurd (cc))
      (by_check Other (eqb (d2_in f) 0) Reserved (Ok tt) (λ _ e. absurd (cc)) tt))))

  module _ (room : ℕ) (enough : most_words (fig_of (fields s)).d1 ≤ room) where
    data_other : check_head s ≡ Ok tt → Other (check_data width (drop 2 s) room)
    unfolding check_data
    data_other z =
        by_check Other (length_fits width (length (drop 2 s))) WrongLength _ (λ _ e. absurd (cc))
        (by_check Other (all_zero (padding width (drop 2 s))) Reserved _ (λ _ e. absurd (cc))
        (by_check Other (leb (count_of width (drop 2 s)) room) SmallBuffer (Ok tt) (λ t. absurd (omega (arith, leb-false (count_of width (drop 2 s)) room t, few_words z, enough))) tt))

    pub enough_room : read_fig s room ≡ Err SmallBuffer → ⊥
    unfolding read_fig read_data
    enough_room e =
        by_refusal (λ refusal. refusal ≡ SmallBuffer → ⊥) (check_head s) _ SmallBuffer head_other
        (λ _ z. by_refusal (λ refusal. refusal ≡ SmallBuffer → ⊥) (check_data width (drop 2 s) room) _ SmallBuffer (data_other z) (λ _ _ k. absurd (cc)))
        e refl
