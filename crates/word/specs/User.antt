-- User groups: the words with T = 0 and with F = 1 or a continuity index of 1 to 6 (document 01, "The 37-bit word").
use Rattle.std.specs.Prelude.{ℕ, Bool, true, false, ◌&&◌, ◌||◌, ltb, eqb}
use Rattle.word.specs.declared.Word.{Word}
use Rattle.word.specs.declared.Word.TheVariants.{Single, First, Later, Tuning, Administration, Index7, Beyond}
use Rattle.word.specs.Format.{limit, head_fields, flag_t, flag_f, low_x}
use Rattle.word.specs.Compose.{is_index}

-- by the bits of the word
unfoldable pub is_user : ℕ → Bool
is_user n = ltb n limit && eqb (flag_t (head_fields n)) 0 && (eqb (flag_f (head_fields n)) 1 || is_index (low_x (head_fields n)))

-- by its kind; that the two agree on every number is `user_kind` in proofs/UserGroups.antt
unfoldable pub is_user_kind : Word → Bool
is_user_kind (Single duration diversion head) = true
is_user_kind (First ci head) = true
is_user_kind (Later ci second gsi content) = true
is_user_kind (Tuning n) = false
is_user_kind (Administration n) = false
is_user_kind (Index7 n) = false
is_user_kind (Beyond n) = false
