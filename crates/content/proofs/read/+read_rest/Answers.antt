-- One item is taken, put after those found, and the rest is read; the measure is the number of bits left.
use native.Mathlib.Omega.{arith}
use mathlib.Core.Path.{◌≡◌, sym, ap, ◌∙◌}
use mathlib.Core.List.{List, [], ◌∷◌, ◌++◌}
use lib.ListN.{length, length-append}
use Rattle.content.specs.Items.{items}
use Rattle.content.specs.Halves.{remaining}
use Rattle.content.specs.Stored.{filled, listed}
use Rattle.content.specs.Answers.{appended}
use Rattle.content.specs.declared.item.Item.{Item}
use Rattle.content.specs.declared.items.Items.{Items}
use Rattle.content.proofs.Places.{listed-filled, refilled}
use Rattle.content.proofs.Reader.{found_one}
use Rattle.content.proofs.read.+read_rest.Goals as goal

pub read_rest-requires : goal.read_rest-requires
unfolding filled
read_rest-requires t c =
    let a = c.args in
    let its = listed a.found.now ++ (c.in-Ok.taken.item ∷ []) in
    let before : length (listed a.found.now) ≡ a.found.now.count = ap (λ (s : Items). s.count) c.requires.1 in
    let after : c.push.new.self.count ≡ length its = ap (λ (s : Items). s.count) c.push.ensures in
    let size = length-append (listed a.found.now) (c.in-Ok.taken.item ∷ []) in
    let shorter = c.in-Ok.ensures.shorter in
    (omega arith, (omega arith, refilled its c.push.new.self c.push.ensures))

pub returns-in-Ok-clause-same : goal.returns-in-Ok-clause-same
returns-in-Ok-clause-same t c =
    let a = c.args in
    let found = listed a.found.now in
    let i = c.in-Ok.taken.item in
    let rest = remaining c.in-Ok.taken.rest in
    let more = found_one found (remaining a.rest.now) i rest (sym c.is_zero.ensures ∙ c.if-is_zero.false) (sym c.in-Ok.ensures.first) in
    let now : listed c.push.new.self ≡ found ++ (i ∷ []) = ap listed c.push.ensures ∙ listed-filled (found ++ (i ∷ [])) in
    c.read_rest.ensures.same ∙ ap (λ (l : List Item). appended l (items rest)) now ∙ sym more
