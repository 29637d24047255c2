-- Words fed to an assembler one by one.
use Prim.Native.Nat.{ℕ, suc, ◌<◌}
use mathlib.Core.Path.{◌≡◌, refl, sym, ap}
use mathlib.Core.Bool.{Bool, true, false, ◌&&◌, ◌||◌, not}
use mathlib.Core.List.{List}
use lib.ListN.{length, get_or, drop}
use lib.Seq.{drop-cons}
use Rattle.assembler.specs.declared.Assembler.{Assembler}
use Rattle.assembler.specs.Reading.{Reads}
use Rattle.assembler.specs.Step.{step_of}
use Rattle.assembler.specs.declared.Advance.{Advance}
use Rattle.assembler.specs.Advance.{advance_of}
use Rattle.word.specs.Kind.{kind_of}
use Rattle.std.specs.Prelude.{is_ok}
use Rattle.messages.specs.Messages.{is_empty, begins, passes, whole_from}

-- the first word decides, and then the rest
pub whole_next : (read : Reads) (a : Assembler) (ws : List ℕ) (i : ℕ) → i < length ws
    → let n = get_or ws i 0 in
    whole_from read a (drop i ws) ≡ passes read a n && whole_from read (step_of read a n).next (drop (suc i) ws)
unfolding whole_from
whole_next read a ws i h = ap (whole_from read a) (drop-cons ws i 0 h)

-- the test of a word as the code makes it
turned : (e b t : Bool) → (e || not b) && t ≡ not (b && not e || not t)
turned true true true = refl
turned true true false = refl
turned true false true = refl
turned true false false = refl
turned false true true = refl
turned false true false = refl
turned false false true = refl
turned false false false = refl

-- by what was found of the state, of the word and of what it does
pub judged : (read : Reads) (a : Assembler) (n : ℕ) (e b : Bool) (s : Advance) → e ≡ is_empty a → b ≡ begins (kind_of n) → s ≡ advance_of (step_of read a n)
    → passes read a n ≡ not (b && not e || not s.taken)
unfolding passes
judged read a n e b s he hb hs =
    let ht : s.taken ≡ is_ok (step_of read a n).answer = ap (λ (x : Advance). x.taken) hs in
    rw (sym he, sym hb, sym ht) (turned e b s.taken)
