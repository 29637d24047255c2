-- Words to their lines, one after the other, and the body of a frame.
use Rattle.std.proofs.Common.{◌≡◌, ℕ, ◌+◌, ◌-◌, ◌<◌, List, [], ◌∷◌, ◌++◌, length, get_or, take, drop, refl, sym, ap, ◌∙◌, append_assoc, append-nil, arith, length-drop, take_all, add-one, drop-cons}
use Rattle.std.proofs.lemmas.List.{take_more}
use Rattle.session.specs.declared.Session.{Session}
use Rattle.session.specs.Session.{after_word, word_text, after_words, words_text}

after-append : (s : Session) (ws us : List ℕ) → after_words s (ws ++ us) ≡ after_words (after_words s ws) us
unfolding after_words
after-append s [] us = refl
after-append s (w ∷ ws) us = after-append (after_word s w) ws us

text-append : (s : Session) (ws us : List ℕ) → words_text s (ws ++ us) ≡ words_text s ws ++ words_text (after_words s ws) us
unfolding after_words words_text
text-append s [] us = refl
text-append s (w ∷ ws) us =
    ap (λ (l : List ℕ). word_text s w ++ l) (text-append (after_word s w) ws us)
    ∙ sym (append_assoc (word_text s w) (words_text (after_word s w) ws) (words_text (after_words (after_word s w) ws) us))

-- one word more
module _ (s : Session) (ws : List ℕ) (i : ℕ) (h : i < length ws) where
  abbrev so_far : Session
  so_far = after_words s (take i ws)

  pub after_more : after_word so_far (get_or ws i 0) ≡ after_words s (take (i + 1) ws)
  unfolding after_words
  after_more = sym (after-append s (take i ws) (get_or ws i 0 ∷ [])) ∙ ap (after_words s) (sym (take_more ws i 0 h))

  pub text-more : words_text s (take i ws) ++ word_text so_far (get_or ws i 0) ≡ words_text s (take (i + 1) ws)
  unfolding words_text
  text-more =
      ap (λ (l : List ℕ). words_text s (take i ws) ++ l) (sym (append-nil (word_text so_far (get_or ws i 0))))
      ∙ sym (text-append s (take i ws) (get_or ws i 0 ∷ []))
      ∙ ap (words_text s) (sym (take_more ws i 0 h))

-- the bytes from an index on, as a part of all
pub tail_part : (i : ℕ) (l : List ℕ) → take (length l - i) (drop i l) ≡ drop i l
tail_part i l = take_all (length l - i) (drop i l) (omega (arith, length-drop i l))

-- the next of some words, and the others after it
from_word : (ws : List ℕ) (i : ℕ) → i < length ws → drop i ws ≡ get_or ws i 0 ∷ drop (i + 1) ws
from_word ws i h = drop-cons ws i 0 h ∙ ap (λ (n : ℕ). get_or ws i 0 ∷ drop n ws) (sym (add-one i))

module _ (s t : Session) (ws : List ℕ) (i : ℕ) (h : i < length ws) (e : t ≡ after_word s (get_or ws i 0)) where
  pub after_next : after_words t (drop (i + 1) ws) ≡ after_words s (drop i ws)
  unfolding after_words
  after_next = ap (λ (x : Session). after_words x (drop (i + 1) ws)) e ∙ sym (ap (after_words s) (from_word ws i h))

  pub text-next : words_text s (drop i ws) ≡ word_text s (get_or ws i 0) ++ words_text t (drop (i + 1) ws)
  unfolding words_text
  text-next = ap (words_text s) (from_word ws i h) ∙ sym (ap (λ (x : Session). word_text s (get_or ws i 0) ++ words_text x (drop (i + 1) ws)) e)
