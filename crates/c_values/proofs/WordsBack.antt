-- Words and system words go to C and back unchanged, and what no word has is refused.
use mathlib.Core.Path.{◌≡◌, refl}
use mathlib.Core.Bool.{Bool, true, false}
use Prim.Native.Nat.{ℕ}
use lib.Dec.{eqb}
use borrow.Author.Tests.{eq-eqb}
use Rattle.std.specs.Prelude.{Ok, Err}
use Rattle.refusal.specs.declared.Refusal.TheVariants.{Unfit}
use Rattle.word.specs.declared.Word.{Word}
use Rattle.word.specs.declared.Word.TheVariants.{Single, First, Later, Tuning, Administration, Index7, Beyond}
use Rattle.system.specs.declared.System.{System}
use Rattle.system.specs.declared.System.TheVariants.{Table, Service}
use Rattle.c_values.specs.declared.words.WordFields.{WordFields}
use Rattle.c_values.specs.declared.systems.SystemFields.{SystemFields}
use Rattle.c_values.specs.Whose.{whose}
use Rattle.c_values.specs.Words.{fields_of, word_by, same, word_from, word_or_none}
use Rattle.bits.specs.Fields.{fits}
use Rattle.word.specs.Compose.{composed}
use Rattle.system.specs.Write.{written}
use Rattle.c_values.specs.Systems as system

self : (n : ℕ) → eqb n n ≡ true
self n = eq-eqb n n refl

-- the value of its own fields, if every field is the same as itself
again : {F A : Type 0} (same : F → F → Bool) (of : A → F) → ((f : F) → same f f ≡ true) → (v : A) {w : A} → w ≡ v → whose same of (of v) w ≡ Ok v
again same of self v made = rw (made, self (of v))

word_again : (w : Word) → word_by (fields_of w) ≡ w → word_from (fields_of w) ≡ Ok w
unfolding word_from
word_again w = again same fields_of (λ f. simp self) w

system_again : (s : System) → system.system_by (system.fields_of s) ≡ s → system.system_from (system.fields_of s) ≡ Ok s
unfolding system.system_from
system_again s = again system.same system.fields_of (λ f. simp self) s

-- every word; a number of 2^37 or more is none
pub word_back : (w : Word) → ((n : ℕ) → w ≡ Beyond n → ⊥) → word_from (fields_of w) ≡ Ok w
unfolding word_by fields_of
word_back (Single d v h) word = word_again (Single d v h) refl
word_back (First ci h) word = word_again (First ci h) refl
word_back (Later ci s g c) word = word_again (Later ci s g c) refl
word_back (Tuning n) word = word_again (Tuning n) refl
word_back (Administration n) word = word_again (Administration n) refl
word_back (Index7 n) word = word_again (Index7 n) refl
word_back (Beyond n) word = absurd (word n refl)

-- every system word
pub system_back : (s : System) → system.system_from (system.fields_of s) ≡ Ok s
unfolding system.system_by system.fields_of
system_back (Table ltn afi mode i n r u) = system_again (Table ltn afi mode i n r u) refl
system_back (Service gap sid ta tw td) = system_again (Service gap sid ta tw td) refl

-- what stands for other fields is refused
pub unfit-word : (f : WordFields) → same f (fields_of (word_by f)) ≡ false → composed (word_or_none f) ≡ Err Unfit
unfolding word_from composed
unfit-word f h = rw h

pub unfit-system : (f : SystemFields) → system.same f (system.fields_of (system.system_by f)) ≡ false → written (system.system_or_none f) ≡ Err Unfit
unfolding system.system_from written fits
unfit-system f h = rw h
