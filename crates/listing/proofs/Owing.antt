-- What a turn writes comes off what is due, whatever the reader still gives.
use Rattle.std.proofs.Common.{◌≡◌, refl, sym, ap, ap₂, ◌∙◌, subst, ℕ, ◌+◌, ◌-◌, ◌≤◌, ◌<◌, arith, Bool, true, false, cond, List, [], ◌∷◌, ◌++◌, length, take, drop, Option, Some, None, unwrap_or, leb, ◌&&◌}
use Rattle.std.proofs.Common.{⊎_elim}
use Rattle.std.proofs.Math.Seq.{take-append-add, take-append_seam}
use Rattle.std.proofs.lemmas.Bool.{cases_lt, true≢false, leb-true, leb-false}
use Rattle.std.proofs.lemmas.List.{append-nil, append_assoc, length-append, length-drop, drop-drop, drop-take, length-take, length-take-le, take-append-le}
use Rattle.std.specs.Io.KnownBytes.{Appends, Consumes, IsAtEnd}
use Rattle.std.specs.Prelude.{IfSome, IfOk, Result, Ok, Err}
use Rattle.framing.specs.declared.Frame.TheVariants.{Part, Bad, Whole}
use Rattle.framing.specs.Frame.{little, length_fits, framed, frame_of}
use Rattle.session.specs.declared.Session.{Session}
use Rattle.session.specs.Session.{frame_room}
use Rattle.recording.specs.declared.Progress.{Progress}
use Rattle.recording.specs.Listing.{Listed, lines_from, lines_left, whole, end_at}
use Rattle.recording.proofs.Lines.{end_lines}
use Rattle.listing.specs.declared.State.{State}
use Rattle.listing.specs.Owed.{at_hand, to_come, due, KeepsOwed, Reads}

-- known bytes that grew
appended : (contents : Option (List ℕ)) (held text : List ℕ) → Appends (Some held) contents text → contents ≡ Some (held ++ text)
appended None held text h = elim h [ ]
appended (Some held') held text h = ap Some h

consumed : (remaining : Option (List ℕ)) (left more : List ℕ) → Consumes (Some left) remaining more → (left' : List ℕ) × (remaining ≡ Some left') × (left ≡ more ++ left')
consumed None left more h = elim h [ ]
consumed (Some left') left more h = (left', refl, h)

at_end : (remaining : Option (List ℕ)) (left : List ℕ) → remaining ≡ Some left → IsAtEnd remaining → left ≡ []
at_end remaining left e h = subst (λ (r : Option (List ℕ)). IsAtEnd r) e h

-- a text came off what is due
pub owes_less : (s s' : State) (input input' : List ℕ) (remaining contents contents' : Option (List ℕ)) (text : List ℕ) → Appends contents contents' text → ((left : List ℕ) → due s input left ≡ text ++ due s' input' left) → KeepsOwed s input remaining contents s' input' remaining contents'
owes_less s s' input input' remaining contents contents' text h same all o =
    record {
      left = o.left;
      held = o.held ++ text;
      gives = o.gives;
      holds = appended contents' o.held text (subst (λ (c : Option (List ℕ)). Appends c contents' text) o.holds h);
      owed = append_assoc o.held text (due s' input' o.left) ∙ ap (λ (l : List ℕ). o.held ++ l) (sym (same o.left)) ∙ o.owed;
    }

-- the bytes at hand after some of them
rest_at_hand : (from end n : ℕ) (input : List ℕ) → n ≤ end - from → drop n (take (end - from) (drop from input)) ≡ take (end - (from + n)) (drop (from + n) input)
rest_at_hand from end n input h =
    let e : end - from ≡ n + (end - (from + n)) = omega arith in
    ap (λ (m : ℕ). drop n (take m (drop from input))) e
    ∙ drop-take n (end - (from + n)) (drop from input)
    ∙ ap (take (end - (from + n))) (drop-drop n from input)

both : (a b : Bool) → (a && b) ≡ true → b ≡ true
both true b e = e
both false b e = cc

-- as many bytes as the longest frame has, without a whole frame in front, begin with a length that no frame has
framed_bad : (m there : ℕ) (b d : Bool) → length_fits m ≡ b → leb m there ≡ d → 130 ≤ there → whole (cond b (cond d (Whole m) Part) Bad) ≡ false → cond b (cond d (Whole m) Part) Bad ≡ Bad
unfolding whole
framed_bad m there true true p q h w = elim (true≢false w) [ ]
framed_bad m there true false p q h w = absurd (omega (arith, h, leb-false m there q, leb-true m 130 (both (leb 2 m) (leb m 130) p)))
framed_bad m there false d p q h w = refl

bad_front : (l : List ℕ) → 132 ≤ length l → whole (frame_of l) ≡ false → frame_of l ≡ Bad
unfolding frame_of framed
bad_front [] h w = absurd (omega (arith, h))
bad_front (a ∷ []) h w = absurd (omega (arith, h))
bad_front (a ∷ b ∷ l) h w = framed_bad (little a b) (length l) (length_fits (little a b)) (leb (little a b) (length l)) refl refl (omega (arith, h)) w

-- such bytes print the same whatever follows
bad_lines : (s : Session) (l left : List ℕ) → frame_of l ≡ Bad → lines_from s (l ++ left) ≡ lines_from s (l ++ [])
unfolding whole end_at
bad_lines s l left e = end_lines s l left false Bad e refl (λ h. elim (true≢false (sym h)) [ ]) ∙ sym (end_lines s l [] false Bad e refl (λ h. refl))

-- what may still come does not count where the reader is at its end, or where the buffer is full
no_more : (s : Session) (l left : List ℕ) (n : ℕ) → 132 ≤ n → whole (frame_of l) ≡ false → (length l < n → left ≡ []) → lines_from s (l ++ left) ≡ lines_from s (l ++ [])
no_more s l left n h w e =
    ⊎_elim
    (λ lt. ap (λ (x : List ℕ). lines_from s (l ++ x)) (e lt))
    (λ le. bad_lines s l left (bad_front l (omega (arith, h, le)) w))
    (cases_lt (length l) n)

some_same : {x y : List ℕ} → Some x ≡ Some y → x ≡ y
some_same {x} {y} e = ap (λ (o : Option (List ℕ)). unwrap_or o x) e

by_last : (session : Session) (kept more left left' : List ℕ) (last : Bool) → left ≡ more ++ left' → (last ≡ true → more ≡ []) → (n : ℕ) → (last ≡ true → length kept < n → left' ≡ []) → 132 ≤ n → whole (frame_of kept) ≡ false → lines_from session (kept ++ left) ≡ lines_from session (kept ++ more ++ cond last [] left')
by_last session kept more left left' false same none n ended h w = ap (lines_from session) (ap (λ (x : List ℕ). kept ++ x) same ∙ sym (append_assoc kept more left'))
by_last session kept more left left' true same none n ended h w =
    let e : left ≡ left' = same ∙ ap (λ (x : List ℕ). x ++ left') (none refl) in
    no_more session kept left n h w (λ lt. e ∙ ended refl lt)
    ∙ ap (lines_from session) (sym (append-nil (kept ++ [])))
    ∙ ap (λ (x : List ℕ). lines_from session (kept ++ x ++ [])) (sym (none refl))

-- the lines of the bytes that were kept and of those to come, after a read
read_on : (session : Session) (kept : List ℕ) (remaining remaining' : Option (List ℕ)) (s' : State) (input' : List ℕ) → Reads session kept remaining s' input' remaining' → 132 ≤ length input' → whole (frame_of kept) ≡ false → (left left' : List ℕ) → remaining ≡ Some left → remaining' ≡ Some left' → lines_from session (kept ++ left) ≡ due s' input' left'
read_on session kept remaining remaining' s' input' r longest w left left' gives gives' =
    let c = consumed remaining' left r.more (subst (λ (o : Option (List ℕ)). Consumes o remaining' r.more) gives r.consumes) in
    let same : left ≡ r.more ++ left' = c.2 ∙ ap (λ (x : List ℕ). r.more ++ x) (some_same (sym c.1 ∙ gives')) in
    by_last session kept r.more left left' s'.last same r.none (length input') (λ e h. at_end remaining' left' gives' (r.ended e h)) longest w
    ∙ ap₂ (λ (x : Session) (hand : List ℕ). lines_from x (hand ++ to_come s' left')) (sym r.same) (sym r.hand)
    ∙ ap (λ (b : Bool). cond b (lines_from s'.session (at_hand s' input' ++ to_come s' left')) []) (sym r.going)

module _ (s : State) (input : List ℕ) (out : List ℕ) (p : Progress) (out' : List ℕ) (going : s.more ≡ true) (l : Listed s.session (at_hand s input) s.last out p out') where
  -- what was due, by what a call wrote
  listed : (left : List ℕ) → due s input left ≡ take p.written out' ++ lines_left p.ended p.session (drop p.taken (at_hand s input) ++ to_come s left)
  listed left =
      ap (λ (b : Bool). cond b (lines_from s.session (at_hand s input ++ to_come s left)) []) going
      ∙ l.text (to_come s left) (λ e. ap (λ (b : Bool). cond b [] left) e)

  -- the listing is at its end
  pub due_ended : (s' : State) → p.ended ≡ true → s'.more ≡ false → (left : List ℕ) → due s input left ≡ take p.written out' ++ due s' input left
  due_ended s' e closed left =
      listed left
      ∙ ap (λ (b : Bool). take p.written out' ++ lines_left b p.session (drop p.taken (at_hand s input) ++ to_come s left)) e
      ∙ ap (λ (b : Bool). take p.written out' ++ cond b (lines_from s'.session (at_hand s' input ++ to_come s' left)) []) (sym closed)

  -- it goes on with the bytes after those that were taken
  pub due_going : p.ended ≡ false → (left : List ℕ) → due s input left ≡ take p.written out' ++ due (record { session = p.session; from = s.from + p.taken; end = s.end; last = s.last; more = true }) input left
  due_going e left =
      listed left
      ∙ ap (λ (b : Bool). take p.written out' ++ lines_left b p.session (drop p.taken (at_hand s input) ++ to_come s left)) e
      ∙ ap (λ (hand : List ℕ). take p.written out' ++ lines_from p.session (hand ++ to_come s left)) (rest_at_hand s.from s.end p.taken input (omega (arith, l.within.0, length-take (s.end - s.from) (drop s.from input))))

  -- nothing was written, since bytes are missing, and more of them were read
  pub due_read : p.ended ≡ false → p.written ≡ 0 → frame_room ≤ length out → 132 ≤ length input → (remaining remaining' : Option (List ℕ)) (s' : State) (input' : List ℕ) → length input' ≡ length input → Reads p.session (drop p.taken (at_hand s input)) remaining s' input' remaining' → (left left' : List ℕ) → remaining ≡ Some left → remaining' ≡ Some left' → due s input left ≡ due s' input' left'
  due_read e none room longest remaining remaining' s' input' same r left left' gives gives' =
      let kept = drop p.taken (at_hand s input) in
      ⊎_elim
      (λ h. absurd (omega (arith, h, none, room)))
      (λ h.
      listed left
      ∙ ap₂ (λ (n : ℕ) (b : Bool). take n out' ++ lines_left b p.session (kept ++ to_come s left)) none e
      ∙ ap (λ (b : Bool). lines_from p.session (kept ++ cond b [] left)) h.0
      ∙ read_on p.session kept remaining remaining' s' input' r (omega (arith, same, longest)) h.1 left left' gives gives')
      (l.far e)

-- the bytes that were kept, and those that were read after them
pub read_hand : (e n : ℕ) (input got rest : List ℕ) → e ≤ length input → n ≤ length got → take (e + n - 0) (take e input ++ (got ++ rest)) ≡ take e input ++ take n got
read_hand e n input got rest h k =
    let same : e + n - 0 ≡ length (take e input) + n = omega (arith, length-take-le e input h) in
    ap (λ (m : ℕ). take m (take e input ++ (got ++ rest))) same
    ∙ take-append-add (take e input) (got ++ rest) n
    ∙ ap (λ (l : List ℕ). take e input ++ l) (take-append-le n got rest k)

-- there was room after them
pub got_some : (e : ℕ) (input got : List ℕ) → length (take e input) < length (take e input ++ (got ++ drop (length input - e) (drop e input))) → 0 < length got
got_some e input got lt =
    let rest = drop (length input - e) (drop e input) in
    omega (arith, lt, length-append (take e input) (got ++ rest), length-append got rest, length-drop (length input - e) (drop e input), length-drop e input)

-- the bytes that were kept at the front are those at hand after the ones that were taken
pub hand_kept : (from end taken n m : ℕ) (input front rest : List ℕ) → from ≤ end → end ≤ length input → taken ≤ length (take (end - from) (drop from input)) → n ≡ length (take end input) - (from + taken) → front ≡ drop (from + taken) (take end input) ++ drop m (take end input) → take n (front ++ rest) ≡ drop taken (take (end - from) (drop from input))
hand_kept from end taken n m input front rest h k few is after =
    let part = drop (from + taken) (take end input) in
    let within : taken ≤ end - from = omega (arith, few, length-take (end - from) (drop from input)) in
    let long : length (take end input) ≡ end = length-take-le end input k in
    let e : end ≡ (from + taken) + (end - (from + taken)) = omega (arith, within, h) in
    ap (λ (l : List ℕ). take n (l ++ rest)) after
    ∙ ap (take n) (append_assoc part (drop m (take end input)) rest)
    ∙ ap (λ (i : ℕ). take i (part ++ (drop m (take end input) ++ rest))) (is ∙ sym (length-drop (from + taken) (take end input)))
    ∙ take-append_seam part (drop m (take end input) ++ rest)
    ∙ ap (λ (i : ℕ). drop (from + taken) (take i input)) e
    ∙ drop-take (from + taken) (end - (from + taken)) input
    ∙ sym (rest_at_hand from end taken input within)

-- a turn that read
pub owes_read : (s : State) (input : List ℕ) (out : List ℕ) (p : Progress) (out' : List ℕ) → s.more ≡ true → Listed s.session (at_hand s input) s.last out p out' → p.ended ≡ false → p.written ≡ 0 → frame_room ≤ length out → 132 ≤ length input → (remaining remaining' contents contents' : Option (List ℕ)) (kept : List ℕ) (s' : State) (input' : List ℕ) → length input' ≡ length input → kept ≡ drop p.taken (at_hand s input) → Appends contents contents' (take p.written out') → Reads p.session kept remaining s' input' remaining' → KeepsOwed s input remaining contents s' input' remaining' contents'
owes_read s input out p out' going l ended none room longest remaining remaining' contents contents' kept s' input' same hand writes reads all o =
    let r = subst (λ (k : List ℕ). Reads p.session k remaining s' input' remaining') hand reads in
    let c = consumed remaining' o.left r.more (subst (λ (x : Option (List ℕ)). Consumes x remaining' r.more) o.gives r.consumes) in
    record {
      left = c.0;
      held = o.held ++ take p.written out';
      gives = c.1;
      holds = appended contents' o.held (take p.written out') (subst (λ (x : Option (List ℕ)). Appends x contents' (take p.written out')) o.holds writes);
      owed =
          ap (λ (n : ℕ). o.held ++ take n out' ++ due s' input' c.0) none
          ∙ ap (λ (x : List ℕ). x ++ due s' input' c.0) (append-nil o.held)
          ∙ ap (λ (x : List ℕ). o.held ++ x) (sym (due_read s input out p out' going l ended none room longest remaining remaining' s' input' same r o.left c.0 o.gives c.1))
          ∙ o.owed;
    }

-- what holds where a call succeeds
pub on_ok : {A E : Type 0} {P Q : A → Type 0} (r : Result A E) → ((x : A) → P x → Q x) → IfOk r P → IfOk r Q
on_ok (Ok x) f h = f x h
on_ok (Err e) f h = tt

-- where nothing is due any more, all that was due is written
pub all_written : (s s' : State) (input input' : List ℕ) (remaining contents remaining' contents' : Option (List ℕ)) → KeepsOwed s input remaining contents s' input' remaining' contents' → s'.more ≡ false → IfSome remaining (λ left. Appends contents contents' (due s input left))
all_written s s' input input' None contents remaining' contents' keeps done = tt
all_written s s' input input' (Some left) None remaining' contents' keeps done = tt
all_written s s' input input' (Some left) (Some held) remaining' contents' keeps done =
    let o = keeps (held ++ due s input left) (record { left = left; held = held; gives = refl; holds = refl; owed = refl }) in
    subst (λ (x : Option (List ℕ)). Appends (Some held) x (due s input left)) (sym o.holds)
    (sym (append-nil o.held)
    ∙ ap (λ (b : Bool). o.held ++ cond b (lines_from s'.session (at_hand s' input' ++ to_come s' o.left)) []) (sym done)
    ∙ o.owed)

both_append : (a b c : Option (List ℕ)) (x y : List ℕ) → Appends a b x → Appends b c y → Appends a c (x ++ y)
both_append None b c x y h k = tt
both_append (Some a) None c x y h k = elim h [ ]
both_append (Some a) (Some b) None x y h k = elim k [ ]
both_append (Some a) (Some b) (Some c) x y h k = k ∙ ap (λ (l : List ℕ). l ++ y) h ∙ append_assoc a x y

-- a text, and then another
pub text_then : (known a b c : Option (List ℕ)) (x : List ℕ) (f : List ℕ → List ℕ) → Appends a b x → IfSome known (λ l. Appends b c (f l)) → IfSome known (λ l. Appends a c (x ++ f l))
text_then None a b c x f h k = tt
text_then (Some l) a b c x f h k = both_append a b c x (f l) h k
