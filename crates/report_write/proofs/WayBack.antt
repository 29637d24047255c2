-- What `write` leaves in a buffer reads back: a fresh assembler gives the report that was written, once, at the last word, and is empty then
-- (`way_back`). For the words are those of a message that is well-formed in the sense of demand 3 (`well_formed`).
use Prim.Native.Nat.{ℕ, zero, suc, ◌-◌, ◌^◌, ◌≤◌, ◌<◌}
use native.Mathlib.Omega.{arith}
use mathlib.Core.Path.{◌≡◌, refl, sym, ap, subst, ◌∙◌}
use mathlib.Core.Bool.{Bool, true, ◌&&◌}
use mathlib.Core.List.{List, [], ◌∷◌, map}
use lib.Dec.{leb, eqb}
use lib.ListN.{length, take, drop}
use lib.Seq.{take_at}
use Rattle.bits.specs.Bits.{val}
use Rattle.bits.specs.Fields.{words, pack, fits}
use Rattle.std.specs.Prelude.{Ok}
use Rattle.refusal.specs.declared.Refusal.TheVariants.{Unfit, SmallBuffer}
use Rattle.refusal.proofs.Checks.{passed}
use Rattle.bits.proofs.Choice.{and_left, chosen}
use Rattle.bits.proofs.Value.{val-take_lt}
use Rattle.bits.proofs.Fields.{length-words}
use Rattle.word.specs.declared.Head.{Head}
use Rattle.word.specs.Format.{head_format}
use Rattle.word.specs.Compose.{single_values, first_values, is_index}
use Rattle.content.specs.Packing.{group_bits, groups, padded}
use Rattle.content.specs.Stored.{limit, well_placed}
use Rattle.report.specs.declared.Report.{Report}
use Rattle.report.specs.declared.Form.{Form}
use Rattle.report.specs.declared.Form.TheVariants as form
use Rattle.report.specs.InterRoad.{content_of}
use Rattle.report.specs.Read.{read_report}
use Rattle.report.specs.Fits.{single_fits}
use Rattle.report.proofs.Multi.{content_short}
use Rattle.report.proofs.OwnParts.{single_is_report}
use Rattle.transmission.specs.Message.{Group, Falling, end, next, WellFormed, alone, joined}
use Rattle.transmission.specs.Demand3.{All}
use Rattle.transmission.proofs.WholeMessage.{words_in}
use Rattle.assembler.specs.Reading.{rules}
use Rattle.assembler.specs.OneMessage.{GivesBack}
use Rattle.assembler.proofs.OneMessage.{one_message}
use Rattle.report_write.specs.Write.{contents_of, tail_word, tail_words, later_words, single_words, multi_words, words_by, words_of, can_write, answer_for, buffer_after, write_report, words_after}
use Rattle.report_write.proofs.Tail.{later-fits}
use Rattle.report_write.proofs.Multi.{index_lt, first_fits}
use Rattle.report_write.proofs.Forms.{real_fits_lem, single-fits, multi-fits, multi_index}
use Rattle.report_write.proofs.AsRead.{single-kind, first_kind, later-kind, contents_read}

-- the groups of words that all arrive
abbrev pub heard : List ℕ → List Group
heard = map (λ n. record { word = n; arrived = true })

pub words-heard : (ws : List ℕ) → words_in (heard ws) ≡ ws
words-heard [] = refl
words-heard (n ∷ ws) = ap (λ (l : List ℕ). n ∷ l) (words-heard ws)

-- the contents of later groups are in their range
abbrev InRange : List ℕ → Type 0
InRange = All (λ c. c < 2 ^ group_bits)

contents_lt : (n : ℕ) (l : List Bool) → InRange (words group_bits n l)
unfolding words
contents_lt zero l = tt
contents_lt (suc n) l = (val-take_lt group_bits l, contents_lt n (drop group_bits l))

module _ (ci : ℕ) (i : is_index ci ≡ true) where
  -- the groups after the second have one of these contents each, no mark, and GSI falling to 0
  falling : (cs : List ℕ) → length cs ≤ 4 → InRange cs → Falling ci (length cs) cs (heard (tail_words ci cs))
  unfolding tail_words tail_word
  falling [] few range = end
  falling (c ∷ cs) few range = next (later-kind ci 0 (length cs) c i (later-fits ci 0 (length cs) c range.0 (omega (arith, index_lt ci i)) (omega arith) (omega arith))) (falling cs (omega arith) range.1)

  -- a first group before them, and the mark on the first of them
  multi_formed : (h : Head) (cs : List ℕ) (r : Report) → fits head_format (first_values ci h) ≡ true → 1 ≤ length cs → length cs ≤ 4 → InRange cs → read_report h cs ≡ Ok r
      → WellFormed (rules read_report) (heard (val (pack head_format (first_values ci h)) ∷ later_words ci cs)) r
  unfolding later_words
  multi_formed h [] r first some few range reads = absurd (omega arith)
  multi_formed h (c ∷ cs) r first some few range reads =
      joined (first_kind ci h i first) (later-kind ci 1 (length cs) c i (later-fits ci 1 (length cs) c range.0 (omega (arith, index_lt ci i)) (omega arith) (omega arith))) (falling cs (omega arith) range.1) reads

-- a report whose items stand in 28 places, and an index, which can be written together
module _ (ci : ℕ) (r : Report) (sized : length r.items.places ≡ limit) (ok : can_write ci r ≡ true) where
  single_formed : r.form ≡ form.Single → WellFormed (rules read_report) (heard (single_words r)) r
  unfolding single_words single_fits
  single_formed e =
      let f = single-fits ci r ok e in
      let ranges = and_left (fits head_format (single_values r.duration r.diversion r.head)) (well_placed r.items && eqb r.items.count 0) f in
      subst (WellFormed (rules read_report) (heard (single_words r))) (single_is_report r sized (real_fits_lem ci r ok) f e) (alone (single-kind r.duration r.diversion r.head ranges))

  groups_formed : r.form ≡ form.Multi → WellFormed (rules read_report) (heard (multi_words ci r)) r
  unfolding multi_words contents_of
  groups_formed e =
      let f = multi-fits ci r ok e in
      let i = multi_index ci r ok e in
      let l = content_of r in
      let n = groups (length l) - 1 in
      let short = content_short r f in
      let long = length-words group_bits n (padded l) in
      multi_formed ci i r.head (contents_of l) r (first_fits ci r f i) (omega arith) (omega arith) (contents_lt n (padded l)) (contents_read r sized (real_fits_lem ci r ok) f e)

  -- the words are those of a well-formed message, whose report it is
  pub well_formed : WellFormed (rules read_report) (heard (words_of ci r)) r
  unfolding words_of words_by
  well_formed = by_form r.form refl
    where
      by_form : (f : Form) → r.form ≡ f → WellFormed (rules read_report) (heard (words_by r.form ci r)) r
      by_form form.Single e = subst (λ (f : Form). WellFormed (rules read_report) (heard (words_by f ci r)) r) (sym e) (single_formed e)
      by_form form.Multi e = subst (λ (f : Form). WellFormed (rules read_report) (heard (words_by f ci r)) r) (sym e) (groups_formed e)

  pub words_back : GivesBack read_report (words_of ci r) r
  words_back = subst (λ (ws : List ℕ). GivesBack read_report ws r) (words-heard (words_of ci r)) (one_message read_report well_formed)

-- what was written: the report can be written, and its words are the first n of the buffer
module _ (ci : ℕ) (r : Report) (out : List ℕ) (n : ℕ) (w : write_report ci r (length out) ≡ Ok n) where
  fitted : (can_write ci r ≡ true) × (answer_for (words_of ci r) (length out) ≡ Ok n)
  unfolding write_report
  fitted = passed (can_write ci r) Unfit (answer_for (words_of ci r) (length out)) n w

  pub was_taken : can_write ci r ≡ true
  was_taken = fitted.0

  room : (leb (length (words_of ci r)) (length out) ≡ true) × (length (words_of ci r) ≡ n)
  unfolding answer_for
  room =
      let both = passed (leb (length (words_of ci r)) (length out)) SmallBuffer (Ok (length (words_of ci r))) n fitted.1 in
      (both.0, cc both.1)

  pub written-words : take n (words_after ci r out) ≡ words_of ci r
  unfolding words_after buffer_after
  written-words =
      let ws = words_of ci r in
      ap (take n) (chosen _ _ _ was_taken ∙ chosen _ _ _ room.0) ∙ take_at ws (drop (length ws) out) n room.1

pub way_back : (ci : ℕ) (r : Report) (out : List ℕ) (n : ℕ) → length r.items.places ≡ limit → write_report ci r (length out) ≡ Ok n
    → GivesBack read_report (take n (words_after ci r out)) r
way_back ci r out n sized w =
    subst (λ (ws : List ℕ). GivesBack read_report ws r) (sym (written-words ci r out n w)) (words_back ci r sized (was_taken ci r out n w))
