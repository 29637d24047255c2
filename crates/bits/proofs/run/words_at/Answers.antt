-- The cells before i hold the words read so far.
use Prim.Native.Nat.{ℕ, suc, ◌+◌, ◌*◌, ◌<◌}
use native.Mathlib.Numerals.{add-one}
use mathlib.Core.Path.{◌≡◌, refl, sym, ap, ◌∙◌}
use mathlib.Core.List.{List, [], ◌∷◌, ◌++◌}
use lib.ListN.{length, take, drop, set, get_or}
use lib.Seq.{drop-drop, drop-cons, set_at, append_snoc}
use Rattle.bits.specs.Bits.{val}
use Rattle.bits.specs.Fields.{flat, words}
use Rattle.bits.specs.Overlay.{stretch}
use Rattle.bits.proofs.Fields.{length-words, words_snoc}
use Rattle.bits.proofs.run.words_at.Goals as goal

more : (s : List ℕ) (at w i x : ℕ) (out₀ : List ℕ) → i < length out₀ → x ≡ val (stretch (at + i * w) w (flat 8 s))
    → set (words w i (drop at (flat 8 s)) ++ drop i out₀) i x ≡ words w (suc i) (drop at (flat 8 s)) ++ drop (suc i) out₀
more s at w i x out₀ h e =
    let ws = words w i (drop at (flat 8 s)) in
    ap (λ (l : List ℕ). set (ws ++ l) i x) (drop-cons out₀ i 0 h)
    ∙ set_at ws (get_or out₀ i 0) (drop (suc i) out₀) x i (length-words w i (drop at (flat 8 s)))
    ∙ sym (append_snoc ws x (drop (suc i) out₀))
    ∙ ap (λ (l : List ℕ). l ++ drop (suc i) out₀)
    (ap (λ (y : ℕ). ws ++ (y ∷ [])) (e ∙ ap (λ l. val (take w l)) (sym (drop-drop (i * w) at (flat 8 s)))) ∙ sym (words_snoc w i (drop at (flat 8 s))))

pub loop-i-init : goal.loop-i-init
unfolding words
loop-i-init c = refl

pub loop-i-preserved : goal.loop-i-preserved
loop-i-preserved c =
    let a = c.args in
    let l = c.loop-i in
    rw (add-one, l.invariant) (more a.s.now a.at a.w l.i c.word_at.result a.out.now c.loop-i-test.true c.word_at.ensures)
