-- What the rows say, by cases as the code reads it, and how wide their values are.
use Rattle.std.proofs.Common.{◌≡◌, refl, ℕ, ◌-◌, ◌^◌, ◌<◌, ◌≤◌, ◌&&◌, cond, get_or, true, arith}
use Rattle.std.specs.Option.{is_some}
use lib.Dec.{ltb, leb}
use borrow.Author.Tests.{ltb-true, leb-true}
use lib.Pow.{pow_mono}
use Rattle.bits.proofs.Choice.{and_left, and_right}
use Rattle.labels.specs.Telephone.{number_codes, letter_codes}
use Rattle.labels.specs.Rows.{row_count, label_rows, code_row, cost_rows, rows, width, next}
use Rattle.labels.proofs.Table.{at_each}
use Rattle.telephone.specs.Keys.{keys, letter_key}
use Rattle.telephone.specs.Meaning.{value_width, sign_of, is_place}
use Rattle.telephone.specs.declared.sign.TheConstants.{DIGITS, LETTERS, KEYS}
use Rattle.telephone.specs.declared.sign.Sign.{Sign}
use Rattle.telephone.specs.declared.sign.Sign.TheVariants.{Item, Reference, Character, Options, Switch, End, Cost, Currency}

abbrev pub sign_by : ℕ → Sign
sign_by r =
    cond (ltb r 15) Item (cond (ltb r 16) Reference (cond (ltb r 29) (Character (get_or DIGITS (r - 16) 0) (get_or DIGITS (r - 16) 0))
    (cond (ltb r 30) Switch (cond (ltb r 31) Options (cond (ltb r 32) End
    (cond (ltb r 33) Switch (cond (ltb r 61) (Character (get_or LETTERS (r - 33) 0) (get_or KEYS (r - 33) 0))
    (cond (ltb r 63) Options (cond (ltb r 64) End (cond (ltb r 65) Cost Currency))))))))))

pub sign_is : (r : ℕ) → r < row_count → sign_of r ≡ sign_by r
unfolding number_codes letter_codes keys letter_key sign_of
sign_is r h = at_each sign_of sign_by refl r h

-- the value of a row is no wider than its sign's
row_fits : (r : ℕ) → r < row_count → leb (width r) (value_width (sign_of r)) ≡ true
unfolding number_codes letter_codes label_rows code_row cost_rows rows width keys letter_key sign_of
row_fits r h = at_each (λ k. leb (width k) (value_width (sign_of k))) (λ k. true) refl r h

-- a place has a row of the table and a value of its sign's width
module _ (r v : ℕ) (h : is_place r v ≡ true) where
  pub place_row : r < row_count
  unfolding is_place
  place_row = ltb-true r row_count (and_left (ltb r row_count) (ltb v (2 ^ width r) && is_some (next r v)) h)

  pub place_value : v < 2 ^ value_width (sign_of r)
  unfolding is_place
  place_value =
      let value = ltb-true v (2 ^ width r) (and_left (ltb v (2 ^ width r)) (is_some (next r v)) (and_right (ltb r row_count) (ltb v (2 ^ width r) && is_some (next r v)) h)) in
      let wider : 2 ^ width r ≤ 2 ^ value_width (sign_of r) = pow_mono (leb-true (width r) (value_width (sign_of r)) (row_fits r place_row)) in
      omega arith
