-- What is packed is read: the packer takes writable items as the reader gives them, and the reader gives them back.
use Prim.Native.Nat.{ℕ, ◌+◌, ◌-◌, ◌≤◌}
use native.Mathlib.Omega.{arith}
use mathlib.Core.Path.{◌≡◌, sym, ap, ap₂, ◌∙◌}
use mathlib.Core.Bool.{Bool, true, false, ◌&&◌}
use mathlib.Core.List.{List, [], ◌++◌}
use lib.ListN.{length, take, length-append, length-replicate}
use lib.Seq.{take-append-add}
use Rattle.std.specs.Prelude.{Result, Ok}
use Rattle.refusal.specs.Checks.{must}
use Rattle.refusal.specs.declared.Refusal.{Refusal}
use Rattle.refusal.specs.declared.Refusal.TheVariants.{Unfit}
use Rattle.content.specs.Content.{content}
use Rattle.content.specs.Packing.{zeros, packing, longest, writable, room, padded}
use Rattle.content.specs.Halves.{bits_of, starting_with}
use Rattle.content.specs.Stored.{limit, filled, well_placed}
use Rattle.content.specs.Answers.{packed, packed_of}
use Rattle.content.specs.declared.item.Item.{Item}
use Rattle.content.specs.declared.pack.Packed.{Packed}
use Rattle.content.proofs.Zeros.{take-zeros}
use Rattle.content.proofs.Halves.{bits_of-content_of}
use Rattle.content.proofs.Lengths.{room_enough}
use Rattle.content.proofs.Packings.{packing_long}
use Rattle.content.proofs.Places.{listed-filled, well_placed-filled}
use Rattle.content.proofs.WrittenIsRead.{packable_short, writable-packable, written_is_read}

-- of bits as they are kept, the first are those padded to the fewest groups
pub kept-padded : (l : List Bool) → length l ≤ longest → take (room (length l)) (bits_of (starting_with l)) ≡ padded l
unfolding starting_with padded
kept-padded l short =
    let n = length l in
    let r = room_enough n in
    let e : length (l ++ zeros (128 - n)) ≡ 128 =
    let k : n + (128 - n) ≡ 128 = omega arith in
    length-append l (zeros (128 - n)) ∙ ap (λ (m : ℕ). n + m) (length-replicate (128 - n) false) ∙ k in
    let k : room n ≡ n + (room n - n) = omega arith in
    ap₂ take k (bits_of-content_of (l ++ zeros (128 - n)) e)
    ∙ take-append-add l (zeros (128 - n)) (room n - n)
    ∙ ap (λ (z : List Bool). l ++ z) (take-zeros (room n - n) (128 - n) (omega arith))

module _ (its : List Item) (w : writable its ≡ true) where
  abbrev n : ℕ
  n = length (packing its)

  short : n ≤ longest
  short = packable_short its (writable-packable its w)

  pub packs_all : packed_of (filled its) ≡ Ok (packed its)
  unfolding packed_of
  packs_all =
      let h : length its ≤ limit = let s = short in omega (arith, packing_long its) in
      ap (λ (l : List Item). must (well_placed (filled its) && writable l) Unfit (Ok (packed l))) (listed-filled its)
      ∙ ap (λ (b : Bool). must b Unfit (Ok (packed its))) (ap₂ ◌&&◌ (well_placed-filled its h) w)

  pub packed_is_read : (p : Packed) → packed_of (filled its) ≡ Ok p → content (take (room n) (bits_of p.content)) ≡ Ok its
  unfolding packed
  packed_is_read p e =
      let both : ◌≡◌ {A = Result Packed Refusal} (Ok p) (Ok (packed its)) = sym e ∙ packs_all in
      let same : p ≡ packed its = cc in
      ap (λ (q : Packed). content (take (room n) (bits_of q.content))) same
      ∙ ap content (kept-padded (packing its) short)
      ∙ written_is_read [] its w short
