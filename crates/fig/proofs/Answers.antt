-- What the reader answers, by the checks of its two parts.
use Prim.Native.Nat.{ℕ, ◌+◌, ◌-◌, ◌*◌, ◌≤◌, ◌<◌}
use native.Mathlib.Omega.{arith}
use mathlib.Core.Path.{◌≡◌, refl, sym, ap, subst, ◌∙◌}
use mathlib.Core.List.{List}
use lib.ListN.{length, take, drop, length-drop}
use lib.Seq.{take_all}
use Rattle.std.specs.Prelude.{Result, Ok, Err, IfErr}
use Rattle.std.specs.Result.{result_and}
use Rattle.refusal.specs.declared.Refusal.{Refusal}
use Rattle.refusal.proofs.Checks.{second, neither}
use Rattle.bits.specs.Fields.{flat, unpack}
use Rattle.bits.proofs.Value.{val-take_lt}
use Rattle.fig.specs.declared.Fig.{Fig}
use Rattle.fig.specs.declared.Reading.{Reading}
use Rattle.fig.specs.Format.{word_width}
use Rattle.fig.specs.Read.{fields, fig_of, count_of, check_head, check_data, read_data, read_fig}
use Rattle.fig.proofs.Header.{length_fits}
use Rattle.fig.proofs.Data.{some_word, room as data-room, any_room, two_bytes}

-- the part of a FIG that the code lends on is the data
pub data_part : (s : List ℕ) → take (length s - 2) (drop 2 s) ≡ drop 2 s
data_part s = take_all (length s - 2) (drop 2 s) (omega (arith, length-drop 2 s))

-- a refusal: the checks refuse, or what is answered where they pass
pub by_refusal : {A B : Type 0} (P : Refusal → Type 0) (m : Result A Refusal) (r : Result B Refusal) (n : Refusal) → IfErr m P → ((a : A) → m ≡ Ok a → r ≡ Err n → P n) → result_and m r ≡ Err n → P n
by_refusal P (Ok a) r n h k e = k a refl e
by_refusal P (Err x) r n h k e = let same : x ≡ n = cc in subst P same h

-- a FIG that is read: its header and its data pass, and it says what its fields say
module _ (s : List ℕ) (room : ℕ) (r : Reading) (e : read_fig s room ≡ Ok r) where
  abbrev width : ℕ
  width = word_width (fig_of (fields s)).d1

  parts_taken : (check_head s ≡ Ok tt) × (read_data (fig_of (fields s)) (drop 2 s) room ≡ Ok r)
  unfolding read_fig
  parts_taken = let h = neither (check_head s) (read_data (fig_of (fields s)) (drop 2 s) room) r e in (h.0.1, h.1)

  data_parts : (check_data width (drop 2 s) room ≡ Ok tt) × (◌≡◌ {A = Reading} (record { fig = fig_of (fields s); count = count_of width (drop 2 s) }) r)
  unfolding read_data
  data_parts =
      let h = neither (check_data width (drop 2 s) room) (Ok (record { fig = fig_of (fields s); count = count_of width (drop 2 s) })) r parts_taken.1 in
      (h.0.1, cc h.1)

  pub taken-head : check_head s ≡ Ok tt
  taken-head = parts_taken.0

  pub taken-fig : r.fig ≡ fig_of (fields s)
  taken-fig = sym (ap (λ (x : Reading). x.fig) data_parts.1)

  pub taken-count : r.count ≡ count_of width (drop 2 s)
  taken-count = sym (ap (λ (x : Reading). x.count) data_parts.1)

  -- a word or more
  pub taken-some : 1 ≤ r.count
  taken-some = omega (arith, taken-count, some_word width (drop 2 s) room data_parts.0)

  pub taken-room : r.count ≤ room
  taken-room = omega (arith, taken-count, data-room width (drop 2 s) room data_parts.0)

  -- it is read in the same way with any other room for its words
  pub taken_anywhere : (room' : ℕ) → r.count ≤ room' → read_fig s room' ≡ Ok r
  unfolding read_fig read_data
  taken_anywhere room' h =
      second (check_head s) _ tt taken-head
      ∙ second (check_data width (drop 2 s) room') _ tt (any_room width (drop 2 s) room room' data_parts.0 (omega (arith, taken-count)))
      ∙ ap (λ (x : Reading). Ok x) data_parts.1

  -- a word takes two bytes or more, after the header
  pub taken-length : (r.count * 2 + 2 ≤ length s) × (length s ≤ 30)
  taken-length =
      let h = length_fits s taken-head in
      (omega (arith, h.0, taken-count, two_bytes (fig_of (fields s)).d1 (drop 2 s), length-drop 2 s), h.1)

  -- D1 is one bit, and TCId three
  pub taken_ranges : (r.fig.d1 < 2) × (r.fig.tcid < 8)
  unfolding unpack
  taken_ranges =
      let l = drop 5 (drop 3 (flat 8 (take 2 s))) in
      subst (λ (f : Fig). (f.d1 < 2) × (f.tcid < 8)) (sym taken-fig) (val-take_lt 1 l, val-take_lt 3 (drop 1 (drop 1 l)))
