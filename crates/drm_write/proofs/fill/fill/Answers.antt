-- The check word is put behind the bytes that it is worked out from.
use Prim.Native.Nat.{ℕ, ◌-◌, ◌≤◌}
use native.Mathlib.Omega.{arith}
use mathlib.Core.Path.{◌≡◌, ap, ◌∙◌}
use lib.ListN.{length}
use Rattle.bits.specs.Fields.{words}
use Rattle.bits.proofs.Fields.{length-words}
use Rattle.crc.specs.Block.{payload, checked}
use Rattle.crc.proofs.Blocks.{length-payload, check-behind}
use Rattle.drm_write.specs.Write.{payload_length, payload_bits, unit_bytes}
use Rattle.drm_write.proofs.fill.fill.Goals as goal

pub returns : goal.returns
unfolding unit_bytes
returns c =
    let s = c.args.s.now in
    let made = c.fill_payload.ensures in
    let two : 2 ≤ length s = omega (arith, c.requires.1) in
    let short : length (payload s) ≡ payload_length c.args.unit (length c.args.words.now) = omega (arith, length-payload s, c.requires.1) in
    let size : length c.fill_payload.new.s ≡ length s - 2 = ap length made ∙ length-words 8 _ _ ∙ length-payload s in
    c.put_check.ensures
    ∙ check-behind c.fill_payload.new.s s two size
    ∙ ap checked (made ∙ ap (λ (n : ℕ). words 8 n (payload_bits c.args.unit c.args.words.now)) short)
