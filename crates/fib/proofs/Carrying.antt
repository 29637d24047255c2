-- What one FIG leaves in the buffers.
use Prim.Native.Nat.{ℕ, suc, ◌≤◌, min}
use native.Mathlib.Omega.{arith}
use mathlib.Core.Path.{◌≡◌, refl, sym, ap, ◌∙◌}
use mathlib.Core.Bool.{true, false}
use mathlib.Core.List.{List, [], ◌∷◌, ◌++◌, map, append_assoc}
use lib.ListN.{length, take, drop, replicate, take-append-drop}
use lib.Seq.{drop-append-le, length-take-le}
use Rattle.bits.specs.Fields.{flat}
use Rattle.std.specs.Prelude.{Result, Ok, Err}
use Rattle.std.specs.Result.{result_unwrap_or}
use Rattle.refusal.specs.declared.Refusal.{Refusal}
use Rattle.bits.proofs.Choice.{either, chosen, passed_over}
use Rattle.bits.specs.Outcome.{mapped}
use Rattle.bits.proofs.Fields.{length-words}
use Rattle.fig.specs.declared.Fig.{Fig}
use Rattle.fig.specs.declared.Reading.{Reading}
use Rattle.fig.specs.Format.{word_width}
use Rattle.fig.specs.Read as read
use Rattle.fig.proofs.Answers.{taken-room}
use Rattle.fib.specs.Walk.{is_tmc, Carried, carried_by, carried, read_one}
use Rattle.fib.specs.Read.{origin_of, room_in, cells_after, words_after, origins_after}

-- how many words a FIG gave, or its refusal; and these words, none where it was refused
abbrev pub counted : Result (List Carried) Refusal → Result ℕ Refusal
counted x = mapped length x

abbrev pub given : Result (List Carried) Refusal → List Carried
given x = result_unwrap_or x []

module _ (fig : Fig) where
  length-carried : (ws : List ℕ) → length (carried_by fig ws) ≡ length ws
  length-carried [] = refl
  length-carried (w ∷ ws) = ap suc (length-carried ws)

  pub words-carried : (ws : List ℕ) → map (λ (c : Carried). c.word) (carried_by fig ws) ≡ ws
  words-carried [] = refl
  words-carried (w ∷ ws) = ap (λ (l : List ℕ). w ∷ l) (words-carried ws)

  pub origins-carried : (ws : List ℕ) → map (λ (c : Carried). origin_of c.fig) (carried_by fig ws) ≡ replicate (length ws) (origin_of fig)
  origins-carried [] = refl
  origins-carried (w ∷ ws) = ap (λ (l : List ℕ). origin_of fig ∷ l) (origins-carried ws)

-- what a FIG that was read leaves in a buffer, by the numbers of its words
module _ (r : Reading) (f : List ℕ) where
  abbrev ws : List ℕ
  ws = read.words_in (Ok r) (drop 2 f)

  length_ws : length ws ≡ r.count
  length_ws = length-words (word_width r.fig.d1) r.count (flat 8 (drop 2 f))

  pub count_taken : counted (carried (Ok r) f) ≡ Ok r.count
  unfolding carried
  count_taken = ap (λ (n : ℕ). Ok n) (length-carried r.fig ws ∙ length_ws)

  cells-taken : (number : Carried → ℕ) (out : List ℕ) → cells_after number (given (carried (Ok r) f)) out ≡ map number (carried_by r.fig ws) ++ drop r.count out
  unfolding carried cells_after
  cells-taken number out = ap (λ (m : ℕ). map number (carried_by r.fig ws) ++ drop m out) (length-carried r.fig ws ∙ length_ws)

  pub words-taken : (out : List ℕ) → words_after (given (carried (Ok r) f)) out ≡ ws ++ drop r.count out
  words-taken out = cells-taken (λ c. c.word) out ∙ ap (λ (l : List ℕ). l ++ drop r.count out) (words-carried r.fig ws)

  pub origins-taken : (out : List ℕ) → origins_after (given (carried (Ok r) f)) out ≡ replicate r.count (origin_of r.fig) ++ drop r.count out
  origins-taken out =
      cells-taken (λ c. origin_of c.fig) out
      ∙ ap (λ (l : List ℕ). l ++ drop r.count out) (origins-carried r.fig ws ∙ ap (λ (m : ℕ). replicate m (origin_of r.fig)) length_ws)

-- a FIG that was refused
pub count_refused : (e : Refusal) (f : List ℕ) → counted (carried (Err e) f) ≡ Err e
unfolding carried
count_refused e f = refl

pub cells-refused : (number : Carried → ℕ) (e : Refusal) (f out : List ℕ) → cells_after number (given (carried (Err e) f)) out ≡ out
unfolding carried cells_after
cells-refused number e f out = refl

-- a FIG 5/1 is read, and any other gives nothing
pub one_tmc : (f : List ℕ) (room : ℕ) → is_tmc f ≡ true → read_one room f ≡ carried (read.read_fig f room) f
unfolding read_one
one_tmc f room t = chosen _ _ _ t

module _ (f : List ℕ) (room : ℕ) (t : is_tmc f ≡ false) where
  pub one_other : read_one room f ≡ Ok []
  unfolding read_one
  one_other = passed_over _ _ _ t

  pub count_other : counted (read_one room f) ≡ Ok 0
  count_other = ap counted one_other

  pub cells_other : (number : Carried → ℕ) (out : List ℕ) → cells_after number (given (read_one room f)) out ≡ out
  unfolding cells_after
  cells_other number out = ap (λ (x : Result (List Carried) Refusal). cells_after number (given x) out) one_other

taken-length : (r : Reading) (f : List ℕ) (cs : List Carried) → carried (Ok r) f ≡ Ok cs → length cs ≡ r.count
unfolding carried
taken-length r f cs e = let k : carried_by r.fig (ws r f) ≡ cs = cc in sym (ap length k) ∙ length-carried r.fig (ws r f) ∙ length_ws r f

pub refused-unread : (e : Refusal) (f : List ℕ) (cs : List Carried) → carried (Err e) f ≡ Ok cs → ⊥
unfolding carried
refused-unread e f cs h = absurd (cc)

-- no FIG gives more words than there is room for
pub one_fits : (f : List ℕ) (room : ℕ) (cs : List Carried) → read_one room f ≡ Ok cs → length cs ≤ room
one_fits f room cs e =
    either (is_tmc f)
    (λ t. by (read.read_fig f room) refl (sym (one_tmc f room t) ∙ e))
    (λ t. let none : read_one room f ≡ Ok [] = one_other f room t in let k : [] ≡ cs = cc in omega (arith, ap length k))
  where
    by : (x : Result Reading Refusal) → read.read_fig f room ≡ x → carried x f ≡ Ok cs → length cs ≤ room
    by (Ok r) h k = omega (arith, taken-room f room r h, taken-length r f cs k)
    by (Err x) h k = absurd (refused-unread x f cs k)

-- the reader was lent the first cells of a buffer
pub read_front : (r : Result Reading Refusal) (bytes out : List ℕ) (room : ℕ) → read.count_in r ≤ room → room ≤ length out
    → read.words_after r bytes (take room out) ++ drop room out ≡ read.words_in r bytes ++ drop (read.count_in r) out
unfolding read.words_after
read_front r bytes out room h k =
    let n = read.count_in r in
    let fits : n ≤ length (take room out) = omega (arith, length-take-le room out k) in
    append_assoc (read.words_in r bytes) (drop n (take room out)) (drop room out)
    ∙ ap (λ (l : List ℕ). read.words_in r bytes ++ l) (sym (drop-append-le n (take room out) (drop room out) fits) ∙ ap (drop n) (take-append-drop room out))

-- the room in both buffers
pub room_fits : (words origins : List ℕ) → (room_in words origins ≤ length words) × (room_in words origins ≤ length origins)
room_fits words origins = (omega arith, omega arith)

-- the reader is lent so many cells
pub lent : (words origins : List ℕ) → length (take (min (length words) (length origins)) words) ≡ min (length words) (length origins)
lent words origins = length-take-le (room_in words origins) words (room_fits words origins).0

-- what the reader answers, into these cells
module _ (f words origins : List ℕ) (room : ℕ) (e : room ≡ min (length words) (length origins)) (x : Result Reading Refusal) (h : x ≡ read.read_fig f (length (take room words))) where
  pub told : x ≡ read.read_fig f (room_in words origins)
  told = h ∙ ap (λ (n : ℕ). read.read_fig f (length (take n words))) e ∙ ap (read.read_fig f) (lent words origins)

  pub told-fits : read.count_in x ≤ room_in words origins
  told-fits = by x told
    where
      by : (y : Result Reading Refusal) → y ≡ read.read_fig f (room_in words origins) → read.count_in y ≤ room_in words origins
      by (Ok r) k = taken-room f (room_in words origins) r (sym k)
      by (Err n) k = omega arith

  -- the words, and later cells as they were
  pub told-words : (out : List ℕ) → out ≡ read.words_after x (drop 2 f) (take room words) → out ++ drop room words ≡ words_after (given (carried (read.read_fig f (room_in words origins)) f)) words
  told-words out k =
      ap (λ (l : List ℕ). l ++ drop room words) k
      ∙ read_front x (drop 2 f) words room (omega (arith, told-fits)) (omega (arith, room_fits words origins))
      ∙ by x
      ∙ ap (λ (y : Result Reading Refusal). words_after (given (carried y f)) words) told
    where
      by : (y : Result Reading Refusal) → read.words_in y (drop 2 f) ++ drop (read.count_in y) words ≡ words_after (given (carried y f)) words
      by (Ok r) = sym (words-taken r f words)
      by (Err n) = sym (cells-refused (λ c. c.word) n f words)
