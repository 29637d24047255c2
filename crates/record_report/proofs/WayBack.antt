-- What is stored from a report reads back as that report in its normal form.
use Prim.Native.Nat.{ℕ, ◌+◌, ◌-◌, ◌*◌, ◌≤◌}
use mathlib.Core.Path.{◌≡◌, refl, sym, ap, ap₂, ◌∙◌}
use mathlib.Core.Bool.{Bool, true, false}
use mathlib.Core.List.{List, [], ◌++◌}
use native.Mathlib.Omega.{arith}
use lib.ListN.{length, take, length-append, length-replicate}
use lib.Seq.{take-append-add}
use Rattle.bits.specs.Fields.{flat}
use Rattle.std.specs.Prelude.{Some, Ok}
use Rattle.bits.specs.Outcome.{mapped}
use Rattle.bits.proofs.Choice.{and_left, and_right}
use Rattle.bits.proofs.Fields.{flat-words}
use Rattle.word.specs.declared.Head.{Head}
use Rattle.content.specs.declared.item.Item.{Item}
use Rattle.content.specs.Packing.{zeros, group_bits, groups, room, longest, packing, padded}
use Rattle.content.specs.Stored.{limit, listed}
use Rattle.content.proofs.Zeros.{take-zeros}
use Rattle.content.proofs.WrittenIsRead.{packable_short, writable-packable, written_is_read}
use Rattle.report.specs.declared.Report.{Report}
use Rattle.report.specs.declared.Form.{Form}
use Rattle.report.specs.declared.Form.TheVariants.{Single, Multi}
use Rattle.report.specs.Report.{single_report, multi_report}
use Rattle.report.specs.Read.{read_items}
use Rattle.report.specs.Fits.{fits_by, real_fits, report_fits}
use Rattle.report.specs.Record.{bytes_of, groups_for, groups_of}
use Rattle.report.proofs.Wholes.{items-read}
use Rattle.report.proofs.Multi.{fit-writable}
use Rattle.report.proofs.Kept.{report-items}
use Rattle.report.proofs.OwnParts.{multi_is_report, single_is_report}
use Rattle.record.specs.declared.Service.{Service}
use Rattle.record.specs.Layout.{byte_at, groups_in, service_in, head_in, real_in, expiry_in}
use Rattle.record.specs.WellFormed.{content_bits}
use Rattle.record_report.specs.declared.Kept.{Kept}
use Rattle.record_report.specs.Made.{record_of}
use Rattle.record_report.specs.Normal.{own_table, brought_home, normal}
use Rattle.record_report.specs.Reads.{with_real, message_in, kept_in, reading_in}
use Rattle.record_report.proofs.MadeFields.{used_back, groups_back, head_back, real_back, expiry_back, content_back, service_back}
use Rattle.record_report.proofs.Normal.{normal_is, single-normal, normal-gives, same_head}
use Rattle.record_report.proofs.Readings.{single-message, multi-message, used_reading}

-- the bytes of items are their bits and zeros
pub bits_back : (its : List Item) → length (packing its) ≤ longest → flat 8 (bytes_of its) ≡ packing its ++ zeros (longest - length (packing its))
unfolding bytes_of
bits_back its short =
    let n = length (packing its) in
    let size : n + (longest - n) ≡ 14 * 8 = omega arith in
    flat-words 8 14 (packing its ++ zeros (longest - n)) (length-append (packing its) (zeros (longest - n)) ∙ ap (λ (m : ℕ). n + m) (length-replicate (longest - n) false) ∙ size)

-- and those of its groups are the content of the fewest groups
padded_back : (its : List Item) → length (packing its) ≤ longest → take (group_bits * (groups (length (packing its)) - 1)) (flat 8 (bytes_of its)) ≡ padded (packing its)
unfolding padded
padded_back its short =
    let n = length (packing its) in
    let whole : room n ≡ n + (room n - n) = omega arith in
    let few : room n - n ≤ longest - n = omega arith in
    ap (take (room n)) (bits_back its short)
    ∙ ap (λ (m : ℕ). take m (packing its ++ zeros (longest - n))) whole
    ∙ take-append-add (packing its) (zeros (longest - n)) (room n - n)
    ∙ ap (λ (z : List Bool). packing its ++ z) (take-zeros (room n - n) (longest - n) few)

-- the groups of a report are the fewest: one for a single-group report, else no more than any number of groups whose content holds the items
module _ (r : Report) where
  pub single-groups : r.form ≡ Single → groups_of r ≡ 1
  unfolding groups_of groups_for
  single-groups e = ap (λ (f : Form). groups_for f (length (packing (listed r.items)))) e

  multi-groups : r.form ≡ Multi → groups_of r ≡ groups (length (packing (listed r.items)))
  unfolding groups_of groups_for
  multi-groups e = ap (λ (f : Form). groups_for f (length (packing (listed r.items)))) e

  pub fewest_groups : r.form ≡ Multi → (k : ℕ) → 2 ≤ k → length (packing (listed r.items)) ≤ group_bits * (k - 1) → groups_of r ≤ k
  fewest_groups e k many hold = let n = length (packing (listed r.items)) in omega (arith, multi-groups e)

module _ (k : Kept) (set : ℕ) (sized : length k.report.items.places ≡ limit) (fit : report_fits k.report ≡ true) where
  abbrev r : Report
  r = k.report

  abbrev s : Service
  s = k.service

  abbrev expiry : ℕ
  expiry = k.expiry.0

  abbrev made : List ℕ
  made = record_of k set

  normal-head : head_in made ≡ (normal s r).head
  normal-head = head_back k set ∙ same_head s r fit

  normal_real : real_in made ≡ (normal s r).real
  normal_real = real_back k set ∙ (normal-gives s r fit).1

  -- the report in its normal form is that of its own head, real location and items
  multi-normal : multi_report r.head r.real (listed r.items) ≡ r → multi_report (normal s r).head (normal s r).real (listed r.items) ≡ normal s r
  multi-normal e = by_table (own_table s r) refl
    where
      its : List Item
      its = listed r.items

      by_table : (b : Bool) → own_table s r ≡ b → multi_report (normal s r).head (normal s r).real its ≡ normal s r
      by_table true f =
          let n = normal_is s r true f in
          ap (λ (x : Report). multi_report x.head x.real its) n ∙ ap brought_home e ∙ sym n
      by_table false f =
          let n = normal_is s r false f in
          ap (λ (x : Report). multi_report x.head x.real its) n ∙ e ∙ sym n

  pub reads_back : message_in made ≡ Ok (normal s r)
  unfolding report_fits record_of
  reads_back = by_form r.form refl (and_right (real_fits r.form r.head r.real) (fits_by r.form r) fit)
    where
      by_form : (f : Form) → r.form ≡ f → fits_by f r ≡ true → message_in made ≡ Ok (normal s r)
      by_form Single e h =
          let n = single-normal s r e in
          let real = and_left (real_fits r.form r.head r.real) (fits_by r.form r) fit in
          single-message made (groups_back k set ∙ single-groups r e)
          ∙ ap₂ (λ (x : Head) (y : ℕ). Ok (with_real y (single_report r.duration r.diversion x))) normal-head normal_real
          ∙ ap (λ (x : Report). Ok (with_real x.real (single_report r.duration r.diversion x.head))) n
          ∙ ap (λ (x : Report). Ok (with_real r.real x)) (single_is_report r sized real (unfold fits_by in h) e)
          ∙ ap Ok (sym n)
      by_form Multi e h =
          let its = listed r.items in
          let n = length (packing its) in
          let can = fit-writable r.items (report-items r fit) in
          let short = packable_short its (writable-packable its can) in
          let many : groups_in made ≡ 1 → ⊥ = λ z. let g = multi-groups r e in let one : groups n ≡ 1 = sym g ∙ z in omega arith in
          let bits_are = ap₂ (λ (m : ℕ) (l : List ℕ). take (group_bits * (m - 1)) (flat 8 l)) (multi-groups r e) (content_back k set) ∙ padded_back its short in
          multi-message made many
          ∙ (λ i. read_items (normal-head i) (normal_real i) (content_bits made) (bits_are i))
          ∙ items-read (normal s r).head (normal s r).real (content_bits made) _ its (written_is_read [] its can short)
          ∙ ap Ok (multi-normal (multi_is_report r sized (unfold fits_by in h) e))

  -- the whole reading: the report with its service and its expiry
  pub reading_back : reading_in made ≡ Ok (Some (record { report = normal s r; service = s; expiry = k.expiry }))
  reading_back =
      let used : byte_at made 0 ≡ 0 → ⊥ = λ z. omega (arith, used_back k set) in
      used_reading made used
      ∙ ap (mapped (λ x. Some (kept_in made x))) reads_back
      ∙ ap₂ (λ (x : Service) (n : ℕ). Ok (Some (record { report = normal s r; service = x; expiry = record { 0 = n } }))) (service_back k set) (expiry_back k set)
