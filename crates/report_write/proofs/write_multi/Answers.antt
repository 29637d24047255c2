-- The first word, the second group's, and then the groups after it that the content takes.
use Prim.Native.Nat.{ℕ, suc, ◌-◌, ◌^◌, ◌≤◌, ◌<◌}
use mathlib.Core.Path.{◌≡◌, refl, sym, ap, ap₂, subst, ◌∙◌}
use mathlib.Core.List.{List, ◌∷◌, ◌++◌}
use native.Mathlib.Omega.{arith}
use lib.ListN.{length, take, drop, set, length-set, length-drop}
use lib.Seq.{length-take-le}
use Rattle.bits.specs.Bits.{val}
use Rattle.bits.specs.Fields.{pack}
use Rattle.bits.proofs.Value.{val-take_lt}
use Rattle.bits.proofs.Fields.{length-words}
use Rattle.word.specs.Format.{head_format}
use Rattle.word.specs.Compose.{first_values}
use Rattle.content.specs.declared.rest.Rest.{Rest}
use Rattle.content.specs.Halves.{bits_of, starting_with}
use Rattle.content.specs.Packing.{zeros, group_bits, groups}
use Rattle.report.specs.declared.Report.{Report}
use Rattle.report.specs.InterRoad.{content_of}
use Rattle.std.specs.Prelude.{Ok}
use Rattle.report_write.specs.Write.{later_words, multi_words}
use Rattle.report_write.proofs.Buffer.{two_and_more, with_room, no_room}
use Rattle.report_write.proofs.Tail.{same_word, same-tail, later-fits, moved}
use Rattle.report_write.proofs.Multi.{index_lt, first_fits, few, second_and_tail, length-multi}
use Rattle.report_write.proofs.write_multi.Goals as goal

-- the number of words
counted : (w : Rest) (r : Report) (m : ℕ) → w ≡ record { bits = starting_with (content_of r); left = length (content_of r) } → m ≡ groups w.left → m ≡ groups (length (content_of r))
counted w r m e g = g ∙ ap (λ (x : Rest). groups x.left) e

-- the cells after the second, up to the end
tail-cells : (out : List ℕ) (x y m : ℕ) → m ≤ length out → length (take (m - 2) (drop 2 (set (set out 0 x) 1 y))) ≡ m - 2
tail-cells out x y m h =
    let two = set (set out 0 x) 1 y in
    length-take-le (m - 2) (drop 2 two) (omega (arith, length-drop 2 two, length-set (set out 0 x) 1 y, length-set out 0 x))

pub first_number-requires : goal.first_number-requires
first_number-requires c =
    first_fits c.args.ci c.args.r c.requires.0 c.requires.1

pub overflow_cast-end : goal.overflow_cast-end
overflow_cast-end c =
    let k = counted _ c.args.r _ c.content_of-whole.ensures c.groups-end.ensures in
    omega (arith, k, few c.args.ci c.args.r c.requires.0)

pub overflow_cast-bits : goal.overflow_cast-bits
overflow_cast-bits c = omega (arith, c.first_bits-bits.ensures, val-take_lt group_bits (bits_of c.content_of-whole.result.bits))

pub later_number-requires : goal.later_number-requires
later_number-requires c =
    let k = counted _ c.args.r _ c.content_of-whole.ensures c.groups-end.ensures in
    let most = few c.args.ci c.args.r c.requires.0 in
    let index = index_lt c.args.ci c.requires.1 in
    let small = subst (λ (n : ℕ). n < 2 ^ group_bits) (sym c.first_bits-bits.ensures) (val-take_lt group_bits (bits_of c.content_of-whole.result.bits)) in
    later-fits _ _ _ _ small (omega arith) (omega arith) (omega arith)

pub put_tail-requires : goal.put_tail-requires
put_tail-requires c =
    let k = counted _ c.args.r _ c.content_of-whole.ensures c.groups-end.ensures in
    let size = tail-cells c.args.out.now c.first_number.result c.later_number.result c.groups-end.result c.if-out-end.false in
    let index = index_lt c.args.ci c.requires.1 in
    (omega arith, omega (arith, k, size, few c.args.ci c.args.r c.requires.0))

pub returns : goal.returns
unfolding multi_words later_words
returns c =
    let out = c.args.out.now in
    let r = c.args.r in
    let ci = c.args.ci in
    let m = c.groups-end.result in
    let x = c.first_number.result in
    let y = c.later_number.result in
    let ys = c.put_tail.new.out in
    let room = c.if-out-end.false in
    let whole = c.content_of-whole.result in
    let w = c.content_of-whole.ensures in
    let k = counted _ r _ w c.groups-end.ensures in
    let shifted = c.shifted_left.result in
    let next : bits_of shifted ≡ drop group_bits (bits_of whole.bits) ++ zeros group_bits = moved whole.bits shifted c.shifted_left.ensures in
    let contents = second_and_tail ci r c.requires.0 (bits_of shifted) (next ∙ ap (λ (x : Rest). drop group_bits (bits_of x.bits) ++ zeros group_bits) w) in
    let size = tail-cells out x y m room in
    let n : m ≡ length (multi_words ci r) = k ∙ sym (length-multi ci r c.requires.0) in
    let left : m - 2 ≡ groups (length (content_of r)) - 2 = ap (λ (i : ℕ). i - 2) k in
    let all = with_room (multi_words ci r) out (omega arith) in
    let j : suc (suc (m - 2)) ≡ m = omega (arith, k) in
    let made : x ∷ y ∷ ys ≡ multi_words ci r =
    ap₂ (λ (a : ℕ) (l : List ℕ). a ∷ l) c.first_number.ensures
    (ap₂ (λ (a : ℕ) (l : List ℕ). a ∷ l)
    (same_word _ _ _ _ _ _ _ c.later_number.ensures
    (c.first_bits-bits.ensures ∙ ap (λ (x : Rest). val (take group_bits (bits_of x.bits))) w)
    (left ∙ sym (length-words group_bits _ (bits_of shifted))))
    (same-tail _ _ _ _ _ c.put_tail.ensures (size ∙ left)))
    ∙ sym (ap (λ (cs : List ℕ). val (pack head_format (first_values ci r.head)) ∷ later_words ci cs) contents) in record {
      value = ap Ok n ∙ all.0;
      out_after = two_and_more out x y (m - 2) (m - 2) ys (omega arith) refl
          ∙ ap₂ (λ (ws : List ℕ) (i : ℕ). ws ++ drop i out) made (j ∙ n)
          ∙ all.1;
    }

pub returns-then-out-end : goal.returns-then-out-end
returns-then-out-end c =
    let k = counted _ c.args.r _ c.content_of-whole.ensures c.groups-end.ensures in let both = no_room (multi_words c.args.ci c.args.r) c.args.out.now (omega (arith, length-multi c.args.ci c.args.r c.requires.0, k)) in record { value = both.0; out_after = both.1 }
