-- What is tested of the later groups of an open message: part of the test of the states that calls reach (document 01, "The assembler").
use Rattle.std.specs.Prelude.{ℕ, zero, suc, ◌+◌, Bool, ◌&&◌, leb, eqb}

-- the number of later groups taken and the GSI of the last: those taken and those still to come are at most four
unfoldable pub count_fits : ℕ → ℕ → Bool
count_fits zero gsi = eqb gsi 0
count_fits (suc k) gsi = leb 1 gsi && leb (suc k + gsi) 4
