-- The four parts are laid over the bytes one after the other, and cover them.
use Prim.Native.Nat.{ℕ, ◌+◌, ◌-◌, ◌*◌, ◌/◌}
use native.Mathlib.Omega.{arith}
use mathlib.Core.Path.{◌≡◌, sym, ap, ◌∙◌}
use mathlib.Core.List.{◌++◌}
use lib.ListN.{length}
use Rattle.bits.specs.Bits.{bits}
use Rattle.bits.specs.Fields.{flat, words}
use Rattle.bits.specs.Overlay.{overlay}
use Rattle.bits.proofs.Value.{length-bits}
use Rattle.bits.proofs.Fields.{length-flat, words_of}
use Rattle.drm_write.specs.Write.{laid}
use Rattle.drm_write.proofs.Filling.{four_overlays}
use Rattle.drm_write.proofs.fill.lay.Goals as goal

pub returns : goal.returns
returns c =
    let fourth = c.put_bits-3 in
    let third = c.put_words in
    let second = c.put_bits-2 in
    let first = c.put_bits in
    let a = c.args in
    let ws = a.words.now in
    let used = a.front + a.system + length ws * 37 in
    let left = length third.new.s * 8 - used in
    let bytes : length third.new.s ≡ (used + 7) / 8 = omega arith in
    let padded : left ≡ (used + 7) / 8 * 8 - used = omega arith in
    let kept : length fourth.new.s ≡ length a.s.now = omega arith in
    let goal = laid a.front a.head a.system a.messages ws in
    words_of 8 fourth.new.s goal (λ i. (c.type_inv.s i).fits)
    (fourth.ensures
    ∙ ap (overlay used (bits left 0))
    (third.ensures
    ∙ ap (overlay (a.front + a.system) (flat 37 ws)) (second.ensures ∙ ap (overlay a.front (bits a.system a.messages)) first.ensures))
    ∙ four_overlays (flat 8 a.s.now) (bits a.front a.head) (bits a.system a.messages) (flat 37 ws) (bits left 0) a.front (a.front + a.system) used
    (sym (length-bits a.front a.head))
    (sym (ap (λ (m : ℕ). a.front + m) (length-bits a.system a.messages)))
    (sym (ap (λ (m : ℕ). a.front + a.system + m) (length-flat 37 ws)))
    (omega (arith, length-flat 8 a.s.now, length-bits left 0))
    ∙ ap (λ (m : ℕ). bits a.front a.head ++ (bits a.system a.messages ++ (flat 37 ws ++ bits m 0))) padded)
    ∙ ap (λ (m : ℕ). words 8 m goal) kept
