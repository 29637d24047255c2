-- The way back: what is written reads back as the same unit and user words, and is refused only for want of room.
use Prim.Native.Nat.{ℕ, ◌+◌, ◌-◌, ◌*◌, ◌/◌, ◌%◌, ◌^◌, ◌≤◌, ◌<◌}
use native.Mathlib.Omega.{arith}
use mathlib.Core.Path.{◌≡◌, refl, sym, ap, ap₂, ◌∙◌}
use mathlib.Core.Bool.{Bool, true, false, ◌&&◌}
use mathlib.Core.List.{List, ◌++◌, append_assoc}
use lib.ListN.{length, take, drop, get_or, length-append}
use lib.Seq.{take_at, drop_at, length-take-le}
use lib.Arith.{digits_div, digits_mod}
use lib.Dec.{leb, eqb}
use borrow.Author.Tests.{le-leb}
use Rattle.bits.specs.Bits.{bits, all_zero}
use Rattle.bits.specs.Fields.{flat, words}
use Rattle.refusal.specs.declared.Refusal.{Refusal}
use Rattle.refusal.specs.declared.Refusal.TheVariants.{Reserved, SmallBuffer}
use Rattle.refusal.specs.Checks.{must}
use Rattle.bits.proofs.Choice.{chosen, passed_over}
use Rattle.std.specs.Prelude.{Result, Ok, ⊤}
use Rattle.std.specs.Result.{result_and}
use Rattle.bits.proofs.Value.{length-bits, zero_bits_lem}
use Rattle.bits.proofs.Fields.{length-flat, length-words, flat-words, words_front}
use Rattle.refusal.proofs.Checks.{second}
use Rattle.crc.specs.Block.{payload, checked}
use Rattle.crc.proofs.Blocks.{length-checked, payload-checked, checked_holds}
use Rattle.assembler.specs.declared.Assembler.TheVariants.{Empty}
use Rattle.drm.specs.declared.DataUnit.{DataUnit}
use Rattle.drm.specs.declared.Reading.{Reading}
use Rattle.drm.specs.Payload.{start, aid, header, words_at, count_from, padding}
use Rattle.drm.specs.Read.{test_fields, test_words, test_payload, test_unit, taken, read_unit, words_after}
use Rattle.drm_write.specs.Write.{system_fields, header_fits, front_width, lead, payload_length, unit_length, unit_fits, front_bits, payload_bits, unit_bytes, write_unit, bytes_after}
use Rattle.drm_write.specs.Allowed.{Typed}
use Rattle.drm_write.proofs.Ranges.{bare_parts, headed_parts, short, ranges, header_part, start_fits, header-fits}
use Rattle.drm_write.proofs.Written.{fitting, whole_part, written_can}
use Rattle.report.specs.Read.{read_report}
use Rattle.messages.proofs.Fed.{whole_below}
use Rattle.drm_write.proofs.Fronts.{front_length}
use Rattle.drm_write.proofs.ReadBack.{Back, bare_back, headed_back, unit_back, fields_pass}

-- a last test, and what is read where it passes
last_check : (t : Bool) (e : Refusal) (r : Reading) → result_and (must t e (Ok (tt {0}))) (Ok r) ≡ must t e (Ok r)
last_check true e r = refl
last_check false e r = refl

module _ (u : DataUnit) (ws : List ℕ) (typed : Typed u) (fit : unit_fits u (length ws) ≡ true) (below : (i : ℕ) → get_or ws i 0 < 2 ^ 37) where
  abbrev n : ℕ
  n = length ws

  abbrev system : List Bool
  system = flat 16 (take u.system (system_fields u))

  abbrev left : ℕ
  left = payload_length u n * 8 - (lead u + n * 37)

  abbrev rest : List Bool
  rest = flat 37 ws ++ bits left 0

  abbrev l : List Bool
  l = front_bits u ++ (system ++ rest)

  front : length (front_bits u) ≡ front_width u
  front = front_length u (start_fits u n fit) (header-fits u n fit typed.ecc)

  system-length : length system ≡ u.system * 16
  system-length = length-flat 16 (take u.system (system_fields u)) ∙ ap (λ (m : ℕ). m * 16) (length-take-le u.system (system_fields u) (ranges u n fit).system)

  -- the front and the system words, and then the user words
  before-rest : length (front_bits u ++ system) ≡ lead u
  before-rest = length-append (front_bits u) system ∙ ap₂ (λ (a b : ℕ). a + b) front system-length

  cut : l ≡ (front_bits u ++ system) ++ rest
  cut = sym (append_assoc (front_bits u) system rest)

  bits-length : length l ≡ lead u + n * 37 + left
  bits-length =
      ap length cut
      ∙ length-append (front_bits u ++ system) rest
      ∙ omega (arith, before-rest, length-append (flat 37 ws) (bits left 0), length-flat 37 ws, length-bits left 0)

  all-bytes : length l ≡ payload_length u n * 8
  all-bytes = bits-length ∙ omega arith

  back : Back u l
  unfolding header_fits
  back = by (eqb u.tmchi 0) refl
    where
      by : (t : Bool) → eqb u.tmchi 0 ≡ t → Back u l
      by true z = bare_back u (start_fits u n fit) (header-fits u n fit typed.ecc) n z (bare_parts u n (sym (chosen _ _ _ z) ∙ header_part u n fit)) (system ++ rest)
      by false z = headed_back u (start_fits u n fit) (header-fits u n fit typed.ecc) typed z (headed_parts u (sym (passed_over _ _ _ z) ∙ header_part u n fit)) rest

  -- a user word without a header, a system word with one
  enough : 41 ≤ lead u + n * 37
  unfolding header_fits front_width
  enough = by (eqb u.tmchi 0) refl
    where
      by : (t : Bool) → eqb u.tmchi 0 ≡ t → 41 ≤ lead u + n * 37
      by true z =
          let w : front_width u ≡ 6 = chosen _ _ _ z in
          omega (arith, w, (bare_parts u n (sym (chosen _ _ _ z) ∙ header_part u n fit)).some)
      by false z =
          let w : front_width u ≡ 32 = passed_over _ _ _ z in
          omega (arith, w, (headed_parts u (sym (passed_over _ _ _ z) ∙ header_part u n fit)).some)

  -- the checks of the user words
  after : length l - lead u ≡ n * 37 + left
  after = omega (arith, bits-length)

  few : left < 37
  few = omega arith

  count_back : count_from (lead u) l ≡ n
  count_back = ap (λ (m : ℕ). m / 37) after ∙ digits_div n few

  padding_back : padding (lead u) l ≡ bits left 0
  padding_back =
      ap (λ (m : ℕ). drop (lead u + m * 37) l) count_back
      ∙ ap (drop (lead u + n * 37)) (cut ∙ sym (append_assoc (front_bits u ++ system) (flat 37 ws) (bits left 0)))
      ∙ drop_at (front_bits u ++ system ++ flat 37 ws) (bits left 0) (lead u + n * 37)
      (length-append (front_bits u ++ system) (flat 37 ws) ∙ ap₂ (λ (a b : ℕ). a + b) before-rest (length-flat 37 ws))

  words_pass : (room : ℕ) → test_words (lead u) l room ≡ must (leb n room) SmallBuffer (Ok tt)
  unfolding test_words
  words_pass room =
      let over : (length l - lead u) % 37 ≤ 7 = omega (arith, ap (λ (m : ℕ). m % 37) after ∙ digits_mod n few) in
      chosen _ _ _ (le-leb (lead u) (length l) (omega (arith, bits-length)))
      ∙ chosen _ _ _ (le-leb ((length l - lead u) % 37) 7 over)
      ∙ ap₂ (λ (x : List Bool) (m : ℕ). must (all_zero x) Reserved (must (leb m room) SmallBuffer (Ok tt))) padding_back count_back
      ∙ chosen _ _ _ (zero_bits_lem left)

  payload_pass : (room : ℕ) → test_payload l room ≡ must (leb n room) SmallBuffer (Ok tt)
  unfolding test_payload
  payload_pass room =
      second (test_fields (start l) (aid l) (header l)) (test_words (words_at l) l room) tt (fields_pass u l back)
      ∙ ap (λ (a : ℕ). test_words a l room) back.lead_back
      ∙ words_pass room

  abbrev p : List ℕ
  p = words 8 (payload_length u n) l

  bits_back : flat 8 (payload (checked p)) ≡ l
  bits_back = ap (flat 8) (payload-checked p) ∙ flat-words 8 (payload_length u n) l all-bytes

  length-bytes : length (checked p) ≡ unit_length u n
  length-bytes = length-checked p ∙ ap (λ (m : ℕ). m + 2) (length-words 8 (payload_length u n) l)

  pub unit_length_lem : length (unit_bytes u ws) ≡ unit_length u n
  unfolding unit_bytes payload_bits
  unit_length_lem = length-bytes

  unit_pass : (room : ℕ) → test_unit (checked p) room ≡ must (leb n room) SmallBuffer (Ok tt)
  unfolding test_unit
  unit_pass room =
      let least : 8 ≤ length (checked p) = omega (arith, length-bytes, enough) in
      let most : length (checked p) ≤ 128 = omega (arith, length-bytes, short u n fit) in
      chosen _ _ _ (ap₂ (λ (a b : Bool). a && b) (le-leb 8 (length (checked p)) least) (le-leb (length (checked p)) 128 most))
      ∙ chosen _ _ _ (checked_holds p)
      ∙ ap (λ (x : List Bool). test_payload x room) bits_back
      ∙ payload_pass room

  abbrev pub as_read : Reading
  as_read = record { unit = u; count = n }

  taken_back : taken l ≡ as_read
  unfolding taken
  taken_back = rw (unit_back u l back (ranges u n fit).lto, back.lead_back, count_back) refl

  -- refused only for want of room
  pub write_read : (room : ℕ) → read_unit (unit_bytes u ws) room ≡ must (leb n room) SmallBuffer (Ok as_read)
  unfolding read_unit unit_bytes payload_bits
  write_read room =
      ap₂ (λ (r : Result ⊤ Refusal) (x : Reading). result_and r (Ok x)) (unit_pass room) (ap taken bits_back ∙ taken_back) ∙ last_check (leb n room) SmallBuffer as_read

  -- the words stand in the first cells, and later cells stay
  pub words_back : (out : List ℕ) → words_after (Ok as_read) (flat 8 (payload (unit_bytes u ws))) out ≡ ws ++ drop n out
  unfolding words_after unit_bytes payload_bits
  words_back out =
      ap (λ (x : List ℕ). x ++ drop n out)
      (ap (λ (x : List Bool). words 37 n (drop (words_at x) x)) bits_back
      ∙ ap (λ (a : ℕ). words 37 n (drop a l)) back.lead_back
      ∙ ap (λ (x : List Bool). words 37 n (drop (lead u) x)) cut
      ∙ ap (words 37 n) (drop_at (front_bits u ++ system) rest (lead u) before-rest)
      ∙ words_front 37 ws (bits left 0) below)

-- the k cells that a call wrote, read into other cells
pub way_back : (u : DataUnit) (ws out lent : List ℕ) (k : ℕ) → Typed u → write_unit u ws (length out) ≡ Ok k → length ws ≤ length lent
    → let s = take k (bytes_after (Ok k) u ws out) in
    (read_unit s (length lent) ≡ Ok (record { unit = u; count = length ws })) × (words_after (read_unit s (length lent)) (flat 8 (payload s)) lent ≡ ws ++ drop (length ws) lent)
unfolding bytes_after
way_back u ws out lent k typed e room =
    let written = written_can u ws (length out) k e in
    let fit = fitting u ws written.0 in
    let below = whole_below read_report ws Empty (whole_part u ws written.0) in
    let size : length (unit_bytes u ws) ≡ k = unit_length_lem u ws typed fit below ∙ written.1 in
    let bytes : take k (unit_bytes u ws ++ drop k out) ≡ unit_bytes u ws = take_at (unit_bytes u ws) (drop k out) k size in
    let read : read_unit (unit_bytes u ws) (length lent) ≡ Ok (record { unit = u; count = length ws }) = write_read u ws typed fit below (length lent) ∙ chosen _ _ _ (le-leb (length ws) (length lent) room) in (
      ap (λ (s : List ℕ). read_unit s (length lent)) bytes ∙ read,
      ap (λ (s : List ℕ). words_after (read_unit s (length lent)) (flat 8 (payload s)) lent) bytes
          ∙ ap (λ (r : Result Reading Refusal). words_after r (flat 8 (payload (unit_bytes u ws))) lent) read
          ∙ words_back u ws typed fit below lent,
    )
