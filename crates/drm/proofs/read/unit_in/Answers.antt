-- The fields by their numbers, and each system word by its number.
use Prim.Native.Nat.{ℕ, ◌+◌}
use mathlib.Core.Path.{ap₂, ◌∙◌}
use lib.Dec.{lit<}
use Rattle.bits.specs.Fields.{flat, words}
use lib.ListN.{get_or, drop}
use Rattle.drm.proofs.Units.{system-fits, unit_from}
use Rattle.drm.proofs.read.unit_in.Goals as goal

pub system_word-requires : goal.system_word-requires
system_word-requires c =
    system-fits c.args.p.now c.requires.0 c.requires.2 _ _ c.header_at-at.ensures.value c.system_count-m.ensures.value _ (lit< tt)

pub system_word-requires-2 : goal.system_word-requires-2
system_word-requires-2 c =
    system-fits c.args.p.now c.requires.0 c.requires.2 _ _ c.header_at-at.ensures.value c.system_count-m.ensures.value _ (lit< tt)

pub system_word-requires-3 : goal.system_word-requires-3
system_word-requires-3 c =
    system-fits c.args.p.now c.requires.0 c.requires.2 _ _ c.header_at-at.ensures.value c.system_count-m.ensures.value _ (lit< tt)

pub returns : goal.returns
returns c =
    let a = c.before in
    let p = a.args.p.now in
    let same = λ (i : ℕ). ap₂ (λ (n m : ℕ). get_or (words 16 n (drop (m + 24) (flat 8 p))) i 0) c.system_count-m.ensures.value c.header_at-at.ensures.value in
    c.unit_of.ensures
    ∙ unit_from p a.requires.0 _ _ c.bits_at.ensures c.header_of-header.ensures _ _ _
    (c.system_word.ensures ∙ same 0)
    (c.system_word-2.ensures ∙ same 1)
    (c.system_word-3.ensures ∙ same 2)
