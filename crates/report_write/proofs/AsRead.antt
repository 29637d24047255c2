-- The words of a report have the kinds and the fields that were written, and their contents read as the report.
use Prim.Native.Nat.{ℕ, ◌-◌, ◌^◌}
use mathlib.Core.Path.{◌≡◌, sym, ap, ap₂, ◌∙◌}
use mathlib.Core.Bool.{Bool, true, ◌&&◌}
use mathlib.Core.List.{List}
use native.Mathlib.Nat.{mul_comm}
use lib.ListN.{length, take, drop}
use borrow.Author.Tests.{ltb-true}
use Rattle.bits.specs.Bits.{val}
use Rattle.bits.specs.Fields.{pack, fits}
use Rattle.std.specs.Prelude.{Ok}
use Rattle.bits.proofs.Choice.{chosen}
use Rattle.bits.proofs.Value.{val-bits_lt}
use Rattle.bits.proofs.Fields.{flat-words}
use Rattle.word.specs.declared.Head.{Head}
use Rattle.word.specs.declared.Word.TheVariants.{Single, First, Later}
use Rattle.word.specs.Format.{head_format, later_format}
use Rattle.word.specs.Kind.{kind_of}
use Rattle.word.specs.Compose.{composed, single_values, first_values, later_values, is_index}
use Rattle.word.proofs.Inverse.{compose-parse}
use Rattle.content.specs.Content.{content}
use Rattle.content.specs.Packing.{group_bits, groups, padded}
use Rattle.content.specs.Stored.{limit, listed}
use Rattle.content.proofs.WrittenIsRead.{length-padded, padded-length, padded_front, written_is_read}
use Rattle.report.specs.declared.Report.{Report}
use Rattle.report.specs.declared.Form.{Form}
use Rattle.report.specs.declared.Form.TheVariants as form
use Rattle.report.specs.Report.{multi_report}
use Rattle.report.specs.InterRoad.{items_at, real_bits, content_of}
use Rattle.report.specs.Read.{read_bits, read_report}
use Rattle.report.specs.Fits.{real_fits, multi_fits}
use Rattle.report.proofs.Multi.{fit-writable, items-fit, content_short}
use Rattle.report.proofs.Places.{length_real}
use Rattle.report.proofs.Wholes.{items-read, whole-read}
use Rattle.report.proofs.OwnParts.{multi_is_report}
use Rattle.report_write.specs.Write.{contents_of}

-- composed words have the kind and the fields that they were composed from
pub single-kind : (duration diversion : ℕ) (h : Head) → fits head_format (single_values duration diversion h) ≡ true → kind_of (val (pack head_format (single_values duration diversion h))) ≡ Single duration diversion h
unfolding composed
single-kind d v h f = compose-parse (Single d v h) _ (chosen _ _ _ f)

pub first_kind : (ci : ℕ) (h : Head) → is_index ci ≡ true → fits head_format (first_values ci h) ≡ true → kind_of (val (pack head_format (first_values ci h))) ≡ First ci h
unfolding composed
first_kind ci h i f = compose-parse (First ci h) _ (chosen _ _ _ (ap₂ (λ (a b : Bool). a && b) i f))

pub later-kind : (ci mark gsi c : ℕ) → is_index ci ≡ true → fits later_format (later_values ci mark gsi c) ≡ true → kind_of (val (pack later_format (later_values ci mark gsi c))) ≡ Later ci mark gsi c
unfolding composed
later-kind ci mark gsi c i f = compose-parse (Later ci mark gsi c) _ (chosen _ _ _ (ap₂ (λ (a b : Bool). a && b) i f))

-- the contents of the fewest groups read as the report, whose items stand in 28 places
module _ (r : Report) (sized : length r.items.places ≡ limit) (real : real_fits r.form r.head r.real ≡ true) (f : multi_fits r ≡ true) (e : r.form ≡ form.Multi) where
  abbrev all : List Bool
  all = padded (content_of r)

  -- the items begin after the bits of the real location
  begin : items_at form.Multi r.head ≡ length (real_bits r)
  begin = ap (λ (x : Form). items_at x r.head) (sym e) ∙ sym (length_real r)

  real_back : val (take (items_at form.Multi r.head) all) ≡ r.real
  unfolding content_of real_bits real_fits
  real_back =
      ap (λ (n : ℕ). val (take n all)) begin
      ∙ ap val (padded_front (real_bits r) (listed r.items))
      ∙ val-bits_lt (items_at r.form r.head) r.real (ltb-true r.real (2 ^ items_at r.form r.head) real)

  items_back : content (drop (items_at form.Multi r.head) all) ≡ Ok (listed r.items)
  unfolding content_of
  items_back =
      ap (λ (n : ℕ). content (drop n all)) begin
      ∙ written_is_read (real_bits r) (listed r.items) (fit-writable r.items (items-fit r f)) (content_short r f)

  pub contents_read : read_report r.head (contents_of (content_of r)) ≡ Ok r
  unfolding contents_of read_report
  contents_read =
      let k = groups (length (content_of r)) - 1 in
      ap (read_bits r.head) (flat-words group_bits k all (length-padded (content_of r) ∙ mul_comm group_bits k))
      ∙ whole-read r.head all (padded-length (content_of r) (content_short r f))
      ∙ items-read r.head _ (length all) _ (listed r.items) items_back
      ∙ ap (λ (n : ℕ). Ok (multi_report r.head n (listed r.items))) real_back
      ∙ ap Ok (multi_is_report r sized f e)
