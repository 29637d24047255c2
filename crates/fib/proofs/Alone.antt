-- One FIG of a walk, by what the FIG reader says of it by itself.
use Prim.Native.Nat.{ℕ, ◌≤◌}
use native.Mathlib.Omega.{arith}
use mathlib.Core.Path.{◌≡◌, refl, sym, ap, ap₂, ◌∙◌}
use mathlib.Core.Bool.{true, false}
use mathlib.Core.List.{List, [], ◌++◌}
use lib.ListN.{length, drop}
use Rattle.bits.specs.Fields.{flat}
use Rattle.std.specs.Prelude.{Result, Ok, Err}
use Rattle.refusal.specs.declared.Refusal.{Refusal}
use Rattle.bits.proofs.Choice.{either}
use Rattle.bits.proofs.Fields.{length-words}
use Rattle.fig.specs.declared.Fig.{Fig}
use Rattle.fig.specs.declared.Reading.{Reading}
use Rattle.fig.specs.Format.{word_width}
use Rattle.fig.specs.Read.{read_fig, fig_in, words_in, words_after}
use Rattle.fig.proofs.Answers.{taken_anywhere, taken-length}
use Rattle.fib.specs.Walk.{is_tmc, Carried, carried_by, carried, read_one}
use Rattle.fib.specs.Each.{fig_by, words_by, IsTaken}
use Rattle.fib.proofs.Carrying.{one_tmc, one_other, refused-unread}

-- taken with some room, it is taken with the most
module _ (f : List ℕ) (room : ℕ) (r : Reading) (e : read_fig f room ≡ Ok r) where
  alone : read_fig f 14 ≡ Ok r
  alone = taken_anywhere f room r e 14 (omega (arith, taken-length f room r e))

  same-fig : fig_by f ≡ r.fig
  same-fig = ap fig_in alone

  same-words : words_by f ≡ words_in (Ok r) (drop 2 f)
  same-words = ap (λ (x : Result Reading Refusal). words_in x (drop 2 f)) alone

  same_count : length (words_by f) ≡ r.count
  same_count = ap length same-words ∙ length-words (word_width r.fig.d1) r.count (flat 8 (drop 2 f))

  same_reading : ◌≡◌ {A = Reading} r (record { fig = fig_by f; count = length (words_by f) })
  same_reading = sym (ap₂ (λ (g : Fig) (n : ℕ). let x : Reading = record { fig = g; count = n } in x) same-fig same_count)

  anywhere : (room' : ℕ) → length (words_by f) ≤ room' → read_fig f room' ≡ Ok r
  anywhere room' h = taken_anywhere f room r e room' (omega (arith, same_count))

  is_taken : IsTaken f
  unfolding words_after
  is_taken = record {
    answer = λ room' h. anywhere room' h ∙ ap (λ (x : Reading). Ok x) same_reading;
    after = λ cells h.
        ap (λ (x : Result Reading Refusal). words_after x (drop 2 f) cells) (anywhere (length cells) h)
        ∙ ap₂ (λ (l : List ℕ) (m : ℕ). l ++ drop m cells) (sym same-words) (sym same_count);
  }

  is_given : carried (Ok r) f ≡ Ok (carried_by (fig_by f) (words_by f))
  unfolding carried
  is_given = sym (ap₂ (λ (g : Fig) (ws : List ℕ). Ok (carried_by g ws)) same-fig same-words)

-- a FIG that gives words: a FIG 5/1 is taken, and any other gives none
module _ (f : List ℕ) (room : ℕ) (cs : List Carried) (e : read_one room f ≡ Ok cs) where
  pub read-tmc : is_tmc f ≡ true → IsTaken f × (cs ≡ carried_by (fig_by f) (words_by f))
  read-tmc t = by (read_fig f room) refl (sym (one_tmc f room t) ∙ e)
    where
      by : (x : Result Reading Refusal) → read_fig f room ≡ x → carried x f ≡ Ok cs → IsTaken f × (cs ≡ carried_by (fig_by f) (words_by f))
      by (Ok r) h k = let same = is_given f room r h in (is_taken f room r h, cc)
      by (Err n) h k = absurd (refused-unread n f cs k)

  pub read_other : is_tmc f ≡ false → cs ≡ []
  read_other t = let none = one_other f room t in cc

-- one that is refused is a FIG 5/1
pub read-refused : (f : List ℕ) (room : ℕ) (n : Refusal) → read_one room f ≡ Err n → (is_tmc f ≡ true) × (read_fig f room ≡ Err n)
unfolding carried
read-refused f room n e =
    either (is_tmc f)
    (λ t. (t, by (read_fig f room) refl (sym (one_tmc f room t) ∙ e)))
    (λ t. let none = one_other f room t in absurd (cc))
  where
    by : (x : Result Reading Refusal) → read_fig f room ≡ x → carried x f ≡ Err n → read_fig f room ≡ Err n
    by (Ok r) h k = absurd (cc)
    by (Err m) h k = h ∙ cc
