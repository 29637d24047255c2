-- The words before this one passed, and the rest decide.
use Prim.Native.Nat.{suc}
use native.Mathlib.Numerals.{add-one}
use mathlib.Core.Path.{◌≡◌, sym, ap, ap₂, ◌∙◌}
use mathlib.Core.Bool.{Bool, true, false, ◌&&◌, not}
use lib.ListN.{get_or, drop, drop_of_length-le}
use Rattle.report.specs.Read.{read_report}
use Rattle.assembler.specs.declared.Assembler.{Assembler}
use Rattle.assembler.specs.declared.Advance.{Advance}
use Rattle.messages.specs.Messages.{begins, passes, whole_from}
use Rattle.messages.proofs.Feeding.{whole_next, judged}
use Rattle.messages.proofs.are_whole.Goals as goal

pub loop-word-init : goal.loop-word-init
loop-word-init c = sym (ap (λ (a : Assembler). whole_from read_report a c.args.words.now) c.new-state.ensures)

pub returns-then-drops-advance : goal.returns-then-drops-advance
returns-then-drops-advance c =
    let l = c.loop-word in
    let ws = c.args.words.now in
    let stopped : passes read_report l.state (get_or ws l.word-index 0) ≡ false =
    judged read_report l.state _ _ _ _ c.is_empty.ensures (c.begins.ensures ∙ ap begins c.parse.ensures) c.advance-advance.ensures ∙ ap not c.if-drops-advance.true in
    sym
    (l.invariant
    ∙ whole_next read_report l.state ws l.word-index c.loop-word-test.true
    ∙ ap₂ (λ (t : Bool) (s : Advance). t && whole_from read_report s.next (drop (suc l.word-index) ws)) stopped (sym c.advance-advance.ensures))

pub loop-word-preserved : goal.loop-word-preserved
loop-word-preserved c =
    let l = c.loop-word in
    let ws = c.args.words.now in
    let passed : passes read_report l.state (get_or ws l.word-index 0) ≡ true =
    judged read_report l.state _ _ _ _ c.is_empty.ensures (c.begins.ensures ∙ ap begins c.parse.ensures) c.advance-advance.ensures ∙ ap not c.if-drops-advance.false in
    rw add-one
    (l.invariant
    ∙ whole_next read_report l.state ws l.word-index c.loop-word-test.true
    ∙ ap₂ (λ (t : Bool) (s : Advance). t && whole_from read_report s.next (drop (suc l.word-index) ws)) passed (sym c.advance-advance.ensures))

pub returns : goal.returns
unfolding whole_from
returns c =
    let l = c.loop-word in
    let ws = c.args.words.now in
    c.is_empty-2.ensures ∙ sym (l.invariant ∙ ap (whole_from read_report l.state) (drop_of_length-le ws c.loop-word-test.false))
