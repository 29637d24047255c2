-- The frame's number and the refusal's, and the place where it has one.
use Prim.Native.Nat.{ℕ}
use mathlib.Core.Path.{sym, ap, ◌∙◌}
use mathlib.Core.List.{[], ◌∷◌}
use Rattle.refusal.specs.Number.{number}
use Rattle.lines.specs.Line.{marked, refusal_line}
use Rattle.lines.proofs.Puts.{put_as}
use Rattle.lines.proofs.line.put_refusal.Goals as goal

pub returns-in-Refused-clause-put : goal.returns-in-Refused-clause-put
unfolding refusal_line
returns-in-Refused-clause-put c =
    let a = c.args in
    let told = ap (λ (n : ℕ). marked (a.frame ∷ n ∷ [])) (c.from-in-Refused.ensures ∙ c.from.ensures) in
    put_as a.at a.out.now _ _ (told ∙ sym (ap (refusal_line a.frame) c.in-Refused.is)) c.put_marked.ensures.put

pub returns-in-Broken-clause-put : goal.returns-in-Broken-clause-put
unfolding refusal_line
returns-in-Broken-clause-put c =
    let a = c.args in
    let told = ap (λ (n : ℕ). marked (a.frame ∷ n ∷ c.from-in-Broken-3.result ∷ [])) (c.from-in-Broken-2.ensures ∙ c.from-in-Broken.ensures) in
    let placed = ap (λ (n : ℕ). marked (a.frame ∷ number c.in-Broken.refusal ∷ n ∷ [])) c.from-in-Broken-3.ensures in
    put_as a.at a.out.now _ _ (told ∙ placed ∙ sym (ap (refusal_line a.frame) c.in-Broken.is)) c.put_marked-in-Broken.ensures.put
