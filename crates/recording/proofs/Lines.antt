-- The law by which `lines_from` is read, and the lines of an input that comes in pieces.
use Prim.Native.Nat.{ℕ, zero, suc, ◌+◌, ◌≤◌, ◌<◌}
use native.Mathlib.Omega.{arith}
use mathlib.Core.Path.{◌≡◌, refl, sym, ap, ap₂, ◌∙◌}
use mathlib.Core.Bool.{Bool, true, false, cond}
use mathlib.Core.List.{List, [], ◌∷◌, ◌++◌, append-nil}
use lib.ListN.{length, take, drop, length-append, length-drop}
use lib.Seq.{take-append-le, drop-append-le}
use lib.Dec.{leb}
use borrow.Author.Tests.{leb-true, le-leb}
use Rattle.bits.proofs.Choice.{and_left}
use Rattle.refusal.specs.declared.Refusal.TheVariants.{WrongLength}
use Rattle.report.specs.declared.Unreadable.TheVariants.{Refused}
use Rattle.lines.specs.Line.{refusal_line}
use Rattle.session.specs.declared.Session.{Session}
use Rattle.framing.specs.declared.Frame.{Frame}
use Rattle.framing.specs.declared.Frame.TheVariants.{End, Part, Bad, Whole}
use Rattle.framing.specs.Frame.{little, length_fits, framed, frame_of}
use Rattle.session.specs.Session.{next, after_frame, frame_text}
use Rattle.recording.specs.Listing.{frame_in, from_frame, lines_by, lines_from, whole, end_at, end_text, ends, lines_left}

-- a whole frame of n bytes after its length: 2 to 130, and they are there
framed-whole : (m there n : ℕ) (b d : Bool) → length_fits m ≡ b → leb m there ≡ d → cond b (cond d (Whole m) Part) Bad ≡ Whole n → (2 ≤ n) × (n ≤ there)
framed-whole m there n true true p q e =
    let same : m ≡ n = cc in
    (omega (arith, same, leb-true 2 m (and_left (leb 2 m) (leb m 130) p)), omega (arith, same, leb-true m there q))
framed-whole m there n true false p q e = absurd (cc)
framed-whole m there n false d p q e = absurd (cc)

pub whole_there : (input : List ℕ) (n : ℕ) → frame_of input ≡ Whole n → (2 ≤ n) × (2 + n ≤ length input)
unfolding frame_of framed
whole_there [] n e = absurd (cc)
whole_there (a ∷ []) n e = absurd (cc)
whole_there (a ∷ b ∷ input) n e =
    let w = framed-whole (little a b) (length input) n (length_fits (little a b)) (leb (little a b) (length input)) refl refl e in
    (w.0, omega (arith, w.1))

-- lines by the frame, where the lines of what follows a whole frame are the same
same-frame : (f g : Session → List ℕ → List ℕ) (s : Session) (input : List ℕ) (frame : Frame) → ((n : ℕ) → frame ≡ Whole n → (t : Session) → f t (drop (2 + n) input) ≡ g t (drop (2 + n) input)) → from_frame f s input frame ≡ from_frame g s input frame
unfolding from_frame
same-frame f g s input End h = refl
same-frame f g s input Part h = refl
same-frame f g s input Bad h = refl
same-frame f g s input (Whole n) h = ap (λ (l : List ℕ). frame_text s (frame_in n input) ++ l) (h n refl (after_frame s (frame_in n input)))

-- a frame takes some of the input
shorter : (input : List ℕ) (n : ℕ) → frame_of input ≡ Whole n → length (drop (2 + n) input) < length input
shorter input n e = omega (arith, length-drop (2 + n) input, whole_there input n e)

-- any bound above the length gives the same lines
enough : (f g : ℕ) (s : Session) (input : List ℕ) → length input < f → length input < g → lines_by f s input ≡ lines_by g s input
unfolding lines_by
enough zero g s input h k = absurd (omega arith)
enough (suc f) zero s input h k = absurd (omega arith)
enough (suc f) (suc g) s input h k =
    same-frame (lines_by f) (lines_by g) s input (frame_of input) (λ n e t. enough f g t (drop (2 + n) input) (omega (arith, shorter input n e)) (omega (arith, shorter input n e)))

pub lines_law : (s : Session) (input : List ℕ) → lines_from s input ≡ from_frame lines_from s input (frame_of input)
unfolding lines_from lines_by
lines_law s input =
    same-frame (lines_by (length input)) lines_from s input (frame_of input) (λ n e t. enough (length input) (suc (length (drop (2 + n) input))) t (drop (2 + n) input) (shorter input n e) (omega arith))

-- a whole frame stays one whatever follows, and so does a length that no frame has
framed-more : (m there more n : ℕ) (b d : Bool) → there ≤ more → length_fits m ≡ b → leb m there ≡ d → cond b (cond d (Whole m) Part) Bad ≡ Whole n → framed m more ≡ Whole n
unfolding framed
framed-more m there more n true true h p q e =
    ap₂ (λ (x y : Bool). cond x (cond y (Whole m) Part) Bad) p (le-leb m more (omega (arith, leb-true m there q))) ∙ e
framed-more m there more n true false h p q e = absurd (cc)
framed-more m there more n false d h p q e = absurd (cc)

framed_bad : (m there more : ℕ) (b d : Bool) → length_fits m ≡ b → leb m there ≡ d → cond b (cond d (Whole m) Part) Bad ≡ Bad → framed m more ≡ Bad
unfolding framed
framed_bad m there more true true p q e = absurd (cc)
framed_bad m there more true false p q e = absurd (cc)
framed_bad m there more false d p q e = ap (λ (x : Bool). cond x (cond (leb m more) (Whole m) Part) Bad) p

whole-more : (l rest : List ℕ) (n : ℕ) → frame_of l ≡ Whole n → frame_of (l ++ rest) ≡ Whole n
unfolding frame_of framed
whole-more [] rest n e = absurd (cc)
whole-more (a ∷ []) rest n e = absurd (cc)
whole-more (a ∷ b ∷ l) rest n e =
    framed-more (little a b) (length l) (length (l ++ rest)) n (length_fits (little a b)) (leb (little a b) (length l)) (omega (arith, length-append l rest)) refl refl e

bad_more : (l rest : List ℕ) → frame_of l ≡ Bad → frame_of (l ++ rest) ≡ Bad
unfolding frame_of framed
bad_more [] rest e = absurd (cc)
bad_more (a ∷ []) rest e = absurd (cc)
bad_more (a ∷ b ∷ l) rest e = framed_bad (little a b) (length l) (length (l ++ rest)) (length_fits (little a b)) (leb (little a b) (length l)) refl refl e

framed-some : (m : ℕ) (b d : Bool) → cond b (cond d (Whole m) Part) Bad ≡ End → ⊥
framed-some m true true e = cc
framed-some m true false e = cc
framed-some m false d e = cc

none_left : (l : List ℕ) → frame_of l ≡ End → l ≡ []
unfolding frame_of framed
none_left [] e = refl
none_left (a ∷ []) e = absurd (cc)
none_left (a ∷ b ∷ l) e = absurd (framed-some (little a b) (length_fits (little a b)) (leb (little a b) (length l)) e)

-- a whole frame prints its lines, and the rest follows
pub whole_lines : (s : Session) (l rest : List ℕ) (n : ℕ) → frame_of l ≡ Whole n → lines_from s (l ++ rest) ≡ frame_text s (frame_in n l) ++ lines_from (after_frame s (frame_in n l)) (drop (2 + n) l ++ rest)
unfolding from_frame
whole_lines s l rest n e =
    let there = whole_there l n e in
    let same : frame_in n (l ++ rest) ≡ frame_in n l =
    ap (take n) (drop-append-le 2 l rest (omega (arith, there))) ∙ take-append-le n (drop 2 l) rest (omega (arith, there, length-drop 2 l)) in
    lines_law s (l ++ rest)
    ∙ ap (from_frame lines_from s (l ++ rest)) (whole-more l rest n e)
    ∙ ap₂ (λ (r t : List ℕ). frame_text s r ++ lines_from (after_frame s r) t) same (drop-append-le (2 + n) l rest there.1)

-- bytes that begin with no whole frame
pub end_lines : (s : Session) (l rest : List ℕ) (last : Bool) (frame : Frame) → frame_of l ≡ frame → whole frame ≡ false → (last ≡ true → rest ≡ [])
    → lines_from s (l ++ rest) ≡ end_text (next s.frames) (end_at frame last) ++ lines_left (ends (end_at frame last)) s (l ++ rest)
unfolding from_frame frame_of whole end_at
end_lines s l rest true End e w h = ap₂ (λ (x y : List ℕ). lines_from s (x ++ y)) (none_left l e) (h refl) ∙ lines_law s []
end_lines s l rest false End e w h = refl
end_lines s l rest true Part e w h =
    ap (λ (r : List ℕ). lines_from s (l ++ r)) (h refl)
    ∙ ap (lines_from s) (append-nil l)
    ∙ lines_law s l
    ∙ ap (from_frame lines_from s l) e
    ∙ sym (append-nil (refusal_line (next s.frames) (Refused WrongLength)))
end_lines s l rest false Part e w h = refl
end_lines s l rest last Bad e w h =
    lines_law s (l ++ rest) ∙ ap (from_frame lines_from s (l ++ rest)) (bad_more l rest e) ∙ sym (append-nil (refusal_line (next s.frames) (Refused WrongLength)))
end_lines s l rest last (Whole n) e w h = absurd (cc)
