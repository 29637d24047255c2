-- How far the listing of a stretch has got.
use Prim.Native.Nat.{ℕ, ◌+◌, ◌-◌, ◌≤◌, ◌<◌}
use native.Mathlib.Omega.{arith}
use mathlib.Core.Path.{◌≡◌, refl, sym, ap, ap₂, ◌∙◌}
use mathlib.Core.Logic.{inl, inr}
use mathlib.Core.Bool.{Bool, true, false, cond}
use mathlib.Core.List.{List, [], ◌++◌, append_assoc}
use lib.ListN.{length, take, drop, length-append, length-drop}
use lib.Seq.{take_at, drop_at, drop-drop, length-take-le}
use Rattle.std.specs.Prelude.{Result}
use Rattle.refusal.specs.declared.Refusal.{Refusal}
use Rattle.lines.specs.Text.{put, Put}
use Rattle.session.specs.declared.Session.{Session}
use Rattle.framing.specs.declared.Frame.{Frame}
use Rattle.framing.specs.declared.Frame.TheVariants.{End, Part, Bad, Whole}
use Rattle.framing.specs.Frame.{frame_of}
use Rattle.session.specs.Session.{next, after_frame, frame_text, frame_room}
use Rattle.recording.specs.Listing.{frame_in, lines_from, whole, end_at, end_text, ends, lines_left, Listed}
use Rattle.recording.proofs.Lines.{whole_there, whole_lines, end_lines}

-- text up to a cell, and the cells after it, once more text is put there
put_front : (a : ℕ) (t l : List ℕ) → a ≤ length l → take (a + length t) (put a t l) ≡ take a l ++ t
unfolding put
put_front a t l h =
    take_at (take a l ++ t) (drop (a + length t) l) (a + length t) (length-append (take a l) t ∙ ap (λ (m : ℕ). m + length t) (length-take-le a l h))

put_back : (a : ℕ) (t l : List ℕ) → a ≤ length l → drop (a + length t) (put a t l) ≡ drop (a + length t) l
unfolding put
put_back a t l h =
    drop_at (take a l ++ t) (drop (a + length t) l) (a + length t) (length-append (take a l) t ∙ ap (λ (m : ℕ). m + length t) (length-take-le a l h))

-- bytes that do not end the listing were not the last
waits : (last : Bool) (frame : Frame) → whole frame ≡ false → ends (end_at frame last) ≡ false → last ≡ false
unfolding whole end_at
waits last End w e = e
waits true Part w e = absurd (cc)
waits false Part w e = refl
waits last Bad w e = absurd (cc)
waits last (Whole n) w e = absurd (cc)

sums : (from n : ℕ) → from + (2 + n) ≡ from + 2 + n
sums from n = omega arith

-- what was written up to a cell and the lines of what is left make up the lines
pub record Going (s : Session) (input : List ℕ) (last : Bool) (out₀ : List ℕ) (now : Session) (from at : ℕ) (out : List ℕ) : Type 0 where
  pub taken : from ≤ length input
  pub written : at ≤ length out
  pub same : length out ≡ length out₀
  pub others : drop at out ≡ drop at out₀
  pub text : (rest : List ℕ) → (last ≡ true → rest ≡ []) → lines_from s (input ++ rest) ≡ take at out ++ lines_from now (drop from input ++ rest)

pub going_start : (s : Session) (input : List ℕ) (last : Bool) (out : List ℕ) → Going s input last out s 0 0 out
going_start s input last out = record { taken = omega arith; written = omega arith; same = refl; others = refl; text = λ rest h. refl }

module _ (s : Session) (input : List ℕ) (last : Bool) (out₀ : List ℕ) (now : Session) (from at : ℕ) (out : List ℕ) (g : Going s input last out₀ now from at out) (t : List ℕ) (e : ℕ) (out' : List ℕ) (p : Put at t out e out') where
  -- more text
  front : take e out' ≡ take at out ++ t
  front = ap₂ take p.0 p.1 ∙ put_front at t out g.written

  back : drop e out' ≡ drop e out₀
  back =
      ap₂ drop p.0 p.1
      ∙ put_back at t out g.written
      ∙ sym (drop-drop (length t) at out)
      ∙ ap (drop (length t)) g.others
      ∙ drop-drop (length t) at out₀
      ∙ ap (λ (n : ℕ). drop n out₀) (sym p.0)

  -- a whole frame is told
  pub going_next : (n : ℕ) (after : Session) → frame_of (drop from input) ≡ Whole n → t ≡ frame_text now (frame_in n (drop from input)) → after ≡ after_frame now (frame_in n (drop from input)) → e ≤ length out' → length out' ≡ length out → Going s input last out₀ after (from + 2 + n) e out'
  going_next n after f text session inside kept =
      let there = whole_there (drop from input) n f in
      record {
        taken = omega (arith, there, g.taken, length-drop from input);
        written = inside;
        same = kept ∙ g.same;
        others = back;
        text =
            λ rest h.
            g.text rest h
            ∙ ap (λ (l : List ℕ). take at out ++ l)
            (whole_lines now (drop from input) rest n f
            ∙ ap₂ (λ (x : List ℕ) (y : Session). x ++ lines_from y (drop (2 + n) (drop from input) ++ rest)) (sym text) (sym session)
            ∙ ap (λ (l : List ℕ). t ++ lines_from after (l ++ rest)) (drop-drop (2 + n) from input ∙ ap (λ (k : ℕ). drop k input) (sums from n)))
            ∙ sym (append_assoc (take at out) t (lines_from after (drop (from + 2 + n) input ++ rest)))
            ∙ ap (λ (l : List ℕ). l ++ lines_from after (drop (from + 2 + n) input ++ rest)) (sym front);
      }

  -- no whole frame is left
  pub going_end : (frame : Frame) (r : Result Bool Refusal) → frame_of (drop from input) ≡ frame → whole frame ≡ false → end_at frame last ≡ r → t ≡ end_text (next now.frames) r → e ≤ length out'
      → Listed s input last out₀ (record { session = now; taken = from; written = e; ended = ends r }) out'
  going_end frame r f w is text inside =
      record {
        within = (g.taken, inside);
        others = back;
        text =
            λ rest h.
            g.text rest h
            ∙ ap (λ (l : List ℕ). take at out ++ l)
            (end_lines now (drop from input) rest last frame f w h
            ∙ ap (λ (x : Result Bool Refusal). end_text (next now.frames) x ++ lines_left (ends x) now (drop from input ++ rest)) is
            ∙ ap (λ (l : List ℕ). l ++ lines_left (ends r) now (drop from input ++ rest)) (sym text))
            ∙ sym (append_assoc (take at out) t (lines_left (ends r) now (drop from input ++ rest)))
            ∙ ap (λ (l : List ℕ). l ++ lines_left (ends r) now (drop from input ++ rest)) (sym front);
        far = λ open'. inr (waits last frame w (ap ends is ∙ open'), ap whole f ∙ w);
      }

-- there is less room than a frame may take
pub going_full : (s : Session) (input : List ℕ) (last : Bool) (out₀ : List ℕ) (now : Session) (from at : ℕ) (out : List ℕ) → Going s input last out₀ now from at out → length out < at + frame_room → Listed s input last out₀ (record { session = now; taken = from; written = at; ended = false }) out
going_full s input last out₀ now from at out g h =
    record { within = (g.taken, g.written); others = g.others; text = g.text; far = λ e. inl (omega (arith, h, g.same)) }

-- the frame of n bytes after the length at an index, as a part of all
pub frame_part : (i n : ℕ) (l : List ℕ) → take (i + 2 + n - (i + 2)) (drop (i + 2) l) ≡ frame_in n (drop i l)
frame_part i n l = let same : i + 2 + n - (i + 2) ≡ n = omega arith in ap₂ take same (sym (drop-drop 2 i l))

pub frame-length : (n : ℕ) (l : List ℕ) → 2 + n ≤ length l → length (frame_in n l) ≡ n
frame-length n l h = length-take-le n (drop 2 l) (omega (arith, length-drop 2 l))
