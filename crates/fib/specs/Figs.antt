-- The structure of a data field (document 02, R-2; EN 300 401, 5.2.1): FIGs one after the other, each a header byte and as many bytes more
-- as the header counts; then nothing, or the end marker and what comes after it. That this is the only such structure is `only` in
-- proofs/Structure.antt.
use Rattle.std.specs.Prelude.{ℕ, zero, suc, ◌+◌, Bool, true, cond, List, [], ◌∷◌, length, take, drop, leb, eqb, Option, None, Some}
use Rattle.bits.specs.Lists.{joined}
use Rattle.fig.specs.Format.{following_in}
use Rattle.fig.specs.Read.{fields}
use Rattle.fib.specs.Format.{end_marker}

-- no FIG begins here: nothing is left, or the end marker stands in a header's place
unfoldable pub ended : List ℕ → Bool
ended [] = true
ended (b ∷ s) = eqb b end_marker

-- the bytes of the FIG that begins here, as its header says: itself and those that it counts
abbrev pub length_said : List ℕ → ℕ
length_said s = 1 + following_in (fields s)

-- the bytes of the whole FIG at the front; none where none begins, and where it runs past the end
unfoldable pub first_length : List ℕ → Option ℕ
first_length s = cond (ended s) None (cond (leb (length_said s) (length s)) (Some (length_said s)) None)

-- with n bytes in the first FIG: that one, and then the FIGs of the rest; without a first, none
unfoldable pub figs_by : (List ℕ → List (List ℕ)) → Option ℕ → List ℕ → List (List ℕ)
figs_by next None s = []
figs_by next (Some n) s = take n s ∷ next (drop n s)

-- the FIGs in at most n steps
unfoldable pub figs_within : ℕ → List ℕ → List (List ℕ)
figs_within zero s = []
figs_within (suc n) s = figs_by (figs_within n) (first_length s) s

-- the whole FIGs at the front, by as many steps as could be needed: read it by its law, `figs s ≡ figs_by figs (first_length s) s`
-- (`figs_law` in proofs/FigsLaw.antt)
unfoldable pub figs : List ℕ → List (List ℕ)
figs s = figs_within (suc (length s)) s

-- what follows them
abbrev pub rest : List ℕ → List ℕ
rest s = drop (length (joined (figs s))) s
