-- The groups after the second, one after the other. What such a group's word is (`tail_word`) is left open but for its fields' ranges.
use Prim.Native.Nat.{ℕ, suc, ◌+◌, ◌-◌, ◌*◌, ◌^◌, ◌≤◌, ◌<◌}
use mathlib.Core.Path.{◌≡◌, refl, sym, ap, ap₂, ◌∙◌}
use mathlib.Core.Bool.{Bool, true, false}
use mathlib.Core.List.{List, [], ◌∷◌, ◌++◌, append_assoc, append-nil}
use native.Mathlib.Omega.{arith}
use lib.ListN.{length, take, drop, set, get_or, length-append, length-drop, length-replicate, replicate-append-replicate}
use lib.Seq.{take-append-le, drop-append-le, drop-drop, drop-cons, set_at, append_snoc, drop-length}
use borrow.Author.Tests.{lt-ltb}
use Rattle.bits.specs.Bits.{val}
use Rattle.bits.specs.Fields.{words, pack, fits}
use Rattle.bits.proofs.Fields.{length-words}
use Rattle.word.specs.Format.{later_format}
use Rattle.word.specs.Compose.{later_values}
use Rattle.content.specs.declared.content.Content.{Content}
use Rattle.content.specs.Halves.{bits_of, content_of}
use Rattle.content.specs.Packing.{zeros, group_bits}
use Rattle.content.proofs.Halves.{length-bits_of, bits_of-content_of}
use Rattle.report_write.specs.Write.{tail_word, tail_words}

pub length-tail : (ci : ℕ) (cs : List ℕ) → length (tail_words ci cs) ≡ length cs
unfolding tail_words
length-tail ci [] = refl
length-tail ci (c ∷ cs) = ap suc (length-tail ci cs)

-- the first of n + 1 groups, and the others
tail-first : (ci n : ℕ) (l : List Bool) → tail_words ci (words group_bits (suc n) l) ≡ tail_word ci n (val (take group_bits l)) ∷ tail_words ci (words group_bits n (drop group_bits l))
unfolding tail_words words
tail-first ci n l = ap (λ (left : ℕ). tail_word ci left (val (take group_bits l)) ∷ tail_words ci (words group_bits n (drop group_bits l))) (length-words group_bits n (drop group_bits l))

-- i cells hold groups: `made`, which with those still to be made are all of them; `rest` is what is left of the bits b
pub record Made (ci : ℕ) (out₀ : List ℕ) (b : List Bool) (out : List ℕ) (rest : List Bool) (i : ℕ) : Type 0 where
  pub left : ℕ
  pub made : List ℕ
  pub total : i + left ≡ length out₀
  pub size : length made ≡ i
  pub cells : out ≡ made ++ drop i out₀
  pub all : made ++ tail_words ci (words group_bits left (drop (i * group_bits) b)) ≡ tail_words ci (words group_bits (length out₀) b)
  pub bits : rest ≡ drop (i * group_bits) b ++ zeros (i * group_bits)

module _ (ci : ℕ) (out₀ : List ℕ) (b : List Bool) where
  pub made_none : Made ci out₀ b out₀ b 0
  made_none = record { left = length out₀; made = []; total = omega arith; size = refl; cells = refl; all = refl; bits = sym (append-nil b) }

  module _ (out : List ℕ) (rest : List Bool) (i : ℕ) (m : Made ci out₀ b out rest i) (few : length out₀ ≤ 3) (wide : length b ≡ 128) where
    -- the next group's content is that of the bits left
    next-bits : i < length out₀ → val (take group_bits rest) ≡ val (take group_bits (drop (i * group_bits) b))
    next-bits h = ap val (ap (take group_bits) m.bits ∙ take-append-le group_bits (drop (i * group_bits) b) (zeros (i * group_bits)) (omega (arith, length-drop (i * group_bits) b)))

    pub made_all : length out₀ ≤ i → out ≡ tail_words ci (words group_bits (length out₀) b)
    unfolding tail_words words
    made_all h =
        let none : m.left ≡ 0 = omega (arith, m.total) in
        let e : i ≡ length out₀ = omega (arith, m.total) in
        m.cells
        ∙ ap (λ (d : List ℕ). m.made ++ d) (ap (λ (k : ℕ). drop k out₀) e ∙ drop-length out₀)
        ∙ sym (ap (λ (k : ℕ). m.made ++ tail_words ci (words group_bits k (drop (i * group_bits) b))) none)
        ∙ m.all

    pub made_more : (x : ℕ) (next : List Bool) → i < length out₀ → x ≡ tail_word ci (length out₀ - 1 - i) (val (take group_bits rest))
        → next ≡ drop group_bits rest ++ zeros group_bits → Made ci out₀ b (set out i x) next (suc i)
    made_more x next h ex en =
        let d = drop (i * group_bits) b in
        let k : m.left ≡ suc (length out₀ - 1 - i) = omega (arith, m.total) in
        let word = tail_word ci (length out₀ - 1 - i) (val (take group_bits d)) in
        let ew : x ≡ word = ex ∙ ap (tail_word ci (length out₀ - 1 - i)) (next-bits h) in
        let step : i * group_bits + group_bits ≡ suc i * group_bits = omega arith in
        let d' : drop group_bits d ≡ drop (suc i * group_bits) b = drop-drop group_bits (i * group_bits) b ∙ ap (λ (n : ℕ). drop n b) step in
        record {
          left = length out₀ - 1 - i;
          made = m.made ++ (x ∷ []);
          total = omega arith;
          size = length-append m.made (x ∷ []) ∙ omega (arith, m.size);
          cells =
              ap (λ (o : List ℕ). set o i x) (m.cells ∙ ap (λ (t : List ℕ). m.made ++ t) (drop-cons out₀ i 0 h))
              ∙ set_at m.made (get_or out₀ i 0) (drop (suc i) out₀) x i m.size
              ∙ sym (append_snoc m.made x (drop (suc i) out₀));
          all =
              append_snoc m.made x (tail_words ci (words group_bits (length out₀ - 1 - i) (drop (suc i * group_bits) b)))
              ∙ ap (λ (t : List ℕ). m.made ++ t)
              (ap₂ (λ (y : ℕ) (t : List Bool). y ∷ tail_words ci (words group_bits (length out₀ - 1 - i) t)) ew (sym d')
              ∙ sym (tail-first ci (length out₀ - 1 - i) d)
              ∙ ap (λ (n : ℕ). tail_words ci (words group_bits n d)) (sym k))
              ∙ m.all;
          bits =
              en
              ∙ ap (λ (t : List Bool). drop group_bits t ++ zeros group_bits) m.bits
              ∙ ap (λ (t : List Bool). t ++ zeros group_bits) (drop-append-le group_bits d (zeros (i * group_bits)) (omega (arith, length-drop (i * group_bits) b)))
              ∙ append_assoc (drop group_bits d) (zeros (i * group_bits)) (zeros group_bits)
              ∙ ap₂ (λ (t u : List Bool). t ++ u) d' (replicate-append-replicate (i * group_bits) group_bits false ∙ ap zeros step);
        }

-- a later group with the same GSI and content
pub same_word : (ci mark gsi gsi' c c' x : ℕ) → x ≡ val (pack later_format (later_values ci mark gsi c)) → c ≡ c' → gsi ≡ gsi' → x ≡ val (pack later_format (later_values ci mark gsi' c'))
same_word ci mark gsi gsi' c c' x e ec eg = e ∙ ap₂ (λ (g d : ℕ). val (pack later_format (later_values ci mark g d))) eg ec

-- as many groups
pub same-tail : (ci n m : ℕ) (l : List Bool) (ys : List ℕ) → ys ≡ tail_words ci (words group_bits n l) → n ≡ m → ys ≡ tail_words ci (words group_bits m l)
same-tail ci n m l ys e en = e ∙ ap (λ (k : ℕ). tail_words ci (words group_bits k l)) en

-- the bits after those of a group
pub moved : (c d : Content) → d ≡ content_of (drop group_bits (bits_of c) ++ zeros group_bits) → bits_of d ≡ drop group_bits (bits_of c) ++ zeros group_bits
moved c d e =
    let b = drop group_bits (bits_of c) in
    ap bits_of e
    ∙ bits_of-content_of (b ++ zeros group_bits)
    (length-append b (zeros group_bits) ∙ omega (arith, length-drop group_bits (bits_of c), length-bits_of c, length-replicate group_bits false))

-- the fields of a later group are in their ranges
pub later-fits : (ci mark gsi content : ℕ) → content < 2 ^ group_bits → ci < 8 → mark < 2 → gsi < 4 → fits later_format (later_values ci mark gsi content) ≡ true
unfolding fits
later-fits ci mark gsi content c i m g = rw (lt-ltb ci 8 i, lt-ltb mark 2 m, lt-ltb gsi 4 g, lt-ltb content (2 ^ group_bits) c)
