-- The words of a multi-group report from its content bits as they are kept.
use Prim.Native.Nat.{ℕ, suc, ◌-◌, ◌*◌, ◌≤◌}
use mathlib.Core.Path.{◌≡◌, refl, sym, ap, ap₂, ◌∙◌}
use mathlib.Core.Bool.{Bool, true, ◌&&◌}
use mathlib.Core.List.{List, ◌∷◌, ◌++◌}
use native.Mathlib.Nat.{mul_comm}
use native.Mathlib.Omega.{arith}
use lib.ListN.{length, take, drop, length-drop}
use lib.Seq.{take-append-le}
use lib.Dec.{leb}
use borrow.Author.Tests.{leb-true, lt-ltb}
use Rattle.bits.specs.Bits.{val}
use Rattle.bits.specs.Fields.{words, fits}
use Rattle.bits.proofs.Choice.{and_right}
use Rattle.bits.proofs.Fields.{length-words}
use Rattle.word.specs.Format.{head_format}
use Rattle.word.specs.Compose.{first_values, is_index}
use Rattle.content.specs.Halves.{bits_of, starting_with}
use Rattle.content.specs.Packing.{zeros, group_bits, groups}
use Rattle.content.proofs.Halves.{length-bits_of}
use Rattle.content.proofs.PackedIsRead.{kept-padded}
use Rattle.report.specs.declared.Report.{Report}
use Rattle.report.specs.InterRoad.{content_of}
use Rattle.report.specs.Fits.{multi_fits}
use Rattle.report.proofs.Kept.{words_take}
use Rattle.report.proofs.Multi.{content_short, head-fit}
use Rattle.report_write.specs.Write.{contents_of, later_words, multi_words}
use Rattle.report_write.proofs.Tail.{length-tail}

-- an index has three bits
pub index_lt : (ci : ℕ) → is_index ci ≡ true → ci ≤ 6
unfolding is_index
index_lt ci i = leb-true ci 6 (and_right (leb 1 ci) (leb ci 6) i)

-- words that end before what follows
words-before : (w n : ℕ) (l z : List Bool) → n * w ≤ length l → words w n (l ++ z) ≡ words w n l
words-before w n l z h = sym (words_take w n (l ++ z)) ∙ ap (words w n) (take-append-le (n * w) l z h) ∙ words_take w n l

module _ (ci : ℕ) (r : Report) (fit : multi_fits r ≡ true) where
  pub first_fits : is_index ci ≡ true → fits head_format (first_values ci r.head) ≡ true
  unfolding fits
  first_fits i =
      let small = index_lt ci i in
      ap₂ (λ (a b : Bool). a && b) (lt-ltb ci 8 (omega arith)) (head-fit r fit)

  abbrev count : ℕ
  count = groups (length (content_of r))

  pub few : count ≤ 5
  few = let short = content_short r fit in omega arith

  abbrev content : List Bool
  content = bits_of (starting_with (content_of r))

  contents_are : contents_of (content_of r) ≡ words group_bits (count - 1) content
  unfolding contents_of
  contents_are =
      let k = count - 1 in
      ap (words group_bits k) (sym (kept-padded (content_of r) (content_short r fit)) ∙ ap (λ (m : ℕ). take m content) (mul_comm group_bits k))
      ∙ words_take group_bits k content

  -- the content of the second group, and those of the groups after it
  pub second_and_tail : (next : List Bool) → next ≡ drop group_bits content ++ zeros group_bits
      → contents_of (content_of r) ≡ val (take group_bits content) ∷ words group_bits (count - 2) next
  unfolding words
  second_and_tail next e =
      let k : count - 1 ≡ suc (count - 2) = omega arith in
      let short = few in
      let room : (count - 2) * group_bits ≤ length (drop group_bits content) = omega (arith, length-drop group_bits content, length-bits_of (starting_with (content_of r))) in
      contents_are
      ∙ ap (λ (n : ℕ). words group_bits n content) k
      ∙ ap (λ (cs : List ℕ). val (take group_bits content) ∷ cs) (sym (words-before group_bits (count - 2) (drop group_bits content) (zeros group_bits) room) ∙ ap (words group_bits (count - 2)) (sym e))

  pub length-multi : length (multi_words ci r) ≡ count
  unfolding multi_words later_words
  length-multi =
      let next = drop group_bits content ++ zeros group_bits in
      let e : suc (suc (count - 2)) ≡ count = omega arith in
      ap (λ (cs : List ℕ). suc (length (later_words ci cs))) (second_and_tail next refl)
      ∙ ap (λ (n : ℕ). suc (suc n)) (length-tail _ _ ∙ length-words group_bits (count - 2) next)
      ∙ e
