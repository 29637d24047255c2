-- The two halves are stored one after the other.
use Prim.Native.Nat.{ℕ, ◌+◌, ◌-◌, ◌*◌, ◌/◌, ◌^◌}
use mathlib.Core.Path.{◌≡◌, ap, ap₂, ◌∙◌}
use mathlib.Core.List.{List, ◌++◌}
use native.Mathlib.Omega.{arith}
use lib.ListN.{length, take, drop, length-append, length-drop}
use lib.Seq.{length-take-le}
use borrow.Rule.Slice.PartMut.{put_mid, post_of}
use Rattle.bits.specs.Bits.{bits}
use Rattle.bits.specs.Fields.{words}
use Rattle.bits.proofs.Fields.{length-words}
use Rattle.report.proofs.Kept.{two-stores}
use Rattle.report.proofs.record.put_content.Goals as goal

pub returns : goal.returns
returns c =
    let out = c.args.out.now in
    let content = c.args.content in
    let fourteen = c.requires in
    let eight : length (take 8 out) ≡ 8 = length-take-le 8 out (omega arith) in
    let first : c.store.new.s ≡ words 8 8 (bits 64 content.high) = c.store.ensures ∙ ap (λ (n : ℕ). words 8 n (bits (n * 8) content.high)) eight in
    let xs = c.store.new.s ++ post_of 0 8 out in
    let long : length xs ≡ 14 =
    length-append c.store.new.s (drop 8 out)
    ∙ ap₂ (λ (n m : ℕ). n + m) (ap length first ∙ length-words 8 8 (bits 64 content.high)) (length-drop 8 out ∙ ap (λ (n : ℕ). n - 8) fourteen) in
    let six : length (take 6 (drop 8 xs)) ≡ 6 = length-take-le 6 (drop 8 xs) (omega (arith, length-drop 8 xs, long)) in
    let second : c.store-2.new.s ≡ words 8 6 (bits 48 (content.low / 2 ^ 16)) = c.store-2.ensures ∙ ap (λ (n : ℕ). words 8 n (bits (n * 8) (content.low / 2 ^ 16))) six in
    ap₂ (λ (a d : List ℕ). put_mid 8 6 (a ++ post_of 0 8 out) d) first second ∙ two-stores content out fourteen
