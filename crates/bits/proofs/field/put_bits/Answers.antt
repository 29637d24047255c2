-- The bytes that hold the field are folded into one number, the field is replaced in it, and the bytes are stored again.
use Prim.Native.Nat.{ℕ, ◌+◌, ◌-◌, ◌/◌}
use native.Mathlib.Omega.{arith}
use mathlib.Core.Path.{ap, ◌∙◌}
use lib.ListN.{length, take, drop}
use Rattle.bits.proofs.Loading.{low_bytes}
use Rattle.bits.proofs.Replacing.{replaced_by}
use Rattle.bits.proofs.InBytes.{count, spare, written_at}
use Rattle.bits.proofs.field.put_bits.Goals as goal

pub returns : goal.returns
returns c =
    let a = c.args in
    let s = a.s.now in
    let n = a.at / 8 + count a.at a.w - a.at / 8 in
    written_at s a.at a.w c.requires.1 a.v n c.store.new.s (omega arith)
    (c.store.ensures
    ∙ ap (low_bytes (length (take n (drop (a.at / 8) s)))) (c.replaced-x.ensures ∙ ap (λ (x : ℕ). replaced_by x a.w (spare a.at a.w) a.v) c.load.ensures))
