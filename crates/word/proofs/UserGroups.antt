-- The user groups are the single-group messages, the first groups and the later groups.
use Prim.Native.Nat.{ℕ, ◌/◌, ◌^◌, ◌<◌}
use native.Mathlib.Nat.{mod-lt}
use mathlib.Core.Path.{◌≡◌, refl}
use mathlib.Core.Bool.{Bool, true, false, ◌&&◌, ◌||◌, cond}
use mathlib.Core.List.{List}
use native.Mathlib.Omega.{arith}
use lib.Dec.{ltb, leb, eqb, lit<}
use borrow.Author.Tests.{eqb-true, eqb-false, leb-true, leb-false, lt-ltb, le-ltb}
use Rattle.bits.proofs.Formats.{parts}
use Rattle.word.specs.declared.Word.TheVariants.{Beyond}
use Rattle.word.specs.Format.{limit, head_format, later_format, head_fields, later_fields, flag_t, flag_f, low_x, top_y}
use Rattle.word.specs.Kind.{kind_of, kind_by, multi_by}
use Rattle.word.specs.Compose.{is_index}
use Rattle.word.specs.User.{is_user, is_user_kind}
use Rattle.word.proofs.Fields.{head_fields_parts, later_fields_parts}
use Rattle.word.proofs.Inverse.{index_of}

zero_index : is_index 0 ≡ false
unfolding is_index
zero_index = refl

seven_index : is_index 7 ≡ false
unfolding is_index
seven_index = refl

module _ (h l : List ℕ) (n : ℕ) (t2 : flag_t h < 2) (x8 : low_x h < 8) where
  t0 : eqb (flag_t h) 1 ≡ false → flag_t h ≡ 0
  t0 e = let d = eqb-false (flag_t h) 1 e in omega arith

  index : eqb (low_x h) 0 ≡ false → eqb (low_x h) 7 ≡ false → is_index (low_x h) ≡ true
  index z s = index_of (low_x h) x8 (eqb-false (low_x h) 0 z) (eqb-false (low_x h) 7 s)

  by_bits : (t f z s y : Bool) → eqb (flag_t h) 1 ≡ t → eqb (flag_f h) 1 ≡ f → eqb (low_x h) 0 ≡ z → eqb (low_x h) 7 ≡ s → eqb (top_y h) 1 ≡ y
      → eqb (flag_t h) 0 && (eqb (flag_f h) 1 || is_index (low_x h)) ≡ is_user_kind (kind_by n h l)
  unfolding is_user_kind kind_by multi_by
  by_bits true f z s y et ef ez es ey = rw (eqb-true (flag_t h) 1 et)
  by_bits false true z s y et ef ez es ey = rw (t0 et, ef)
  by_bits false false true s y et ef ez es ey = rw (t0 et, ef, eqb-true (low_x h) 0 ez) zero_index
  by_bits false false false true y et ef ez es ey = rw (t0 et, ef, eqb-true (low_x h) 7 es) seven_index
  by_bits false false false false true et ef ez es ey = rw (t0 et, ef, ez, es, ey) (index ez es)
  by_bits false false false false false et ef ez es ey = rw (t0 et, ef, ez, es, ey) (index ez es)

pub user_kind : (n : ℕ) → is_user n ≡ is_user_kind (kind_of n)
unfolding is_user kind_of is_user_kind
user_kind n = by_size (leb limit n) refl
  where
    by_size : (b : Bool) → leb limit n ≡ b → ltb n limit && eqb (flag_t (head_fields n)) 0 && (eqb (flag_f (head_fields n)) 1 || is_index (low_x (head_fields n))) ≡ is_user_kind (cond (leb limit n) (Beyond n) (kind_by n (head_fields n) (later_fields n)))
    by_size true e = rw (e, le-ltb n limit (leb-true limit n e))
    by_size false e = rw (e, lt-ltb n limit (leb-false limit n e)) (rw (head_fields_parts n, later_fields_parts n) (by_bits (parts head_format n) (parts later_format n) n (mod-lt (n / 2 ^ 36) (lit< tt)) (mod-lt (n / 2 ^ 32) (lit< tt)) _ _ _ _ _ refl refl refl refl refl))
