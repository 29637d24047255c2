-- However a recording comes in pieces, and whatever room each call has, the texts written one after the other are its lines.
use Prim.Native.Nat.{ℕ}
use mathlib.Core.Path.{◌≡◌, ap, ◌∙◌}
use mathlib.Core.Bool.{Bool}
use mathlib.Core.List.{List, ◌++◌, append-nil}
use lib.ListN.{take, drop}
use Rattle.session.specs.declared.Session.{Session}
use Rattle.recording.specs.Listing.{lines_from, lines_left}
use Rattle.recording.specs.Pieces.{InPieces, ending, going}

pub in_pieces : {s : Session} {input text : List ℕ} → InPieces s input text → lines_from s input ≡ text
in_pieces (ending s hand later out out' last p listed h e) =
    listed.text later h
    ∙ ap (λ (b : Bool). take p.written out' ++ lines_left b p.session (drop p.taken hand ++ later)) e
    ∙ append-nil (take p.written out')
in_pieces (going s hand later out out' rest last p listed h e more) =
    listed.text later h
    ∙ ap (λ (b : Bool). take p.written out' ++ lines_left b p.session (drop p.taken hand ++ later)) e
    ∙ ap (λ (l : List ℕ). take p.written out' ++ l) (in_pieces more)
