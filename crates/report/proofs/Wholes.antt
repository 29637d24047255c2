-- A message's whole content: the bits of the real location, and the rest.
use Prim.Native.Nat.{ℕ, ◌≤◌, ◌<◌}
use native.Mathlib.Omega.{arith}
use mathlib.Core.Path.{◌≡◌, sym, ap, ap₂, ◌∙◌}
use mathlib.Core.Bool.{Bool, true, false}
use mathlib.Core.List.{List}
use lib.ListN.{length, take, drop}
use lib.Seq.{length-take-le}
use Rattle.refusal.specs.declared.Refusal.TheVariants.{WrongLength}
use Rattle.bits.specs.Bits.{val}
use Rattle.std.specs.Prelude.{Ok, Err, is_ok}
use Rattle.bits.specs.Outcome.{mapped, refused_as}
use Rattle.bits.proofs.Outcomes.{mapped-given, refused_as_given}
use Rattle.word.specs.declared.Head.{Head}
use Rattle.content.specs.declared.content.Content.{Content}
use Rattle.content.specs.declared.item.Item.{Item}
use Rattle.content.specs.declared.read.Unread.{Unread}
use Rattle.content.specs.Items as content
use Rattle.content.specs.Content.{content_length, content}
use Rattle.content.specs.Packing.{group_bits}
use Rattle.content.specs.Halves.{bits_of}
use Rattle.content.proofs.Halves.{length-bits_of}
use Rattle.content.proofs.Lengths.{groups_of, content_length-take}
use Rattle.report.specs.declared.Unreadable.TheVariants.{Refused}
use Rattle.report.specs.declared.Form.TheVariants.{Multi}
use Rattle.report.specs.InterRoad.{items_at}
use Rattle.report.specs.Report.{multi_report}
use Rattle.report.specs.Read.{Reading, placed, read_items, read_bits}

-- a content has one group's bits or more, and fewer than are kept
pub length_between : (size : ℕ) → content_length size ≡ true → (group_bits ≤ size) × (size < 128)
length_between size e = let g = groups_of size e in (omega arith, omega arith)

-- the items of a content, as its reading has them
module _ (h : Head) (real whole : ℕ) (l : List Bool) where
  abbrev from : content.Reading → Reading
  from x = refused_as (placed whole) (mapped (multi_report h real) x)

  pub items-read : (its : List Item) → content l ≡ Ok its → read_items h real whole l ≡ Ok (multi_report h real its)
  unfolding read_items
  items-read its e = ap from e

  pub items_refused : (u : Unread) → content l ≡ Err u → read_items h real whole l ≡ Err (placed whole u)
  unfolding read_items
  items_refused u e = ap from e

  pub items-given : is_ok (read_items h real whole l) ≡ is_ok (content l)
  unfolding read_items
  items-given = refused_as_given (placed whole) (mapped (multi_report h real) (content l)) ∙ mapped-given (multi_report h real) (content l)

module _ (h : Head) (l : List Bool) where
  -- by whether there is such a length
  abbrev by : Bool → Reading
  by b = elim b [ true ↦ read_items h (val (take (items_at Multi h) l)) (length l) (drop (items_at Multi h) l) | false ↦ Err (Refused WrongLength) ]

  pub whole-read : content_length (length l) ≡ true → read_bits h l ≡ read_items h (val (take (items_at Multi h) l)) (length l) (drop (items_at Multi h) l)
  unfolding read_bits
  whole-read e = ap by e

  pub whole-refused : content_length (length l) ≡ false → read_bits h l ≡ Err (Refused WrongLength)
  unfolding read_bits
  whole-refused e = ap by e

-- the first bits that are kept, if they are a whole content
module _ (h : Head) (c : Content) (size : ℕ) where
  abbrev kept : List Bool
  kept = take size (bits_of c)

  same_length : content_length (length kept) ≡ content_length size
  same_length = content_length-take size (bits_of c) (length-bits_of c)

  pub kept_read : (real : ℕ) (rest : List Bool) → content_length size ≡ true → real ≡ val (take (items_at Multi h) kept) → rest ≡ drop (items_at Multi h) kept
      → read_items h real size rest ≡ read_bits h kept
  kept_read real rest e er et =
      let all : size ≡ length kept = sym (length-take-le size (bits_of c) (let b = length_between size e in omega (arith, length-bits_of c))) in
      ap₂ (λ (x : ℕ) (t : List Bool). read_items h x size t) er et
      ∙ ap (λ (n : ℕ). read_items h (val (take (items_at Multi h) kept)) n (drop (items_at Multi h) kept)) all
      ∙ sym (whole-read h kept (same_length ∙ e))

  pub kept-refused : content_length size ≡ false → Err (Refused WrongLength) ≡ read_bits h kept
  kept-refused e = sym (whole-refused h kept (same_length ∙ e))
