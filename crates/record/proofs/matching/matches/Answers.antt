-- The code first, and then the other tests.
use mathlib.Core.Path.{◌≡◌, refl, sym, ap, ◌∙◌}
use mathlib.Core.Bool.{Bool, true, false, not, ◌&&◌}
use mathlib.Core.List.{List}
use Prim.Native.Nat.{ℕ}
use lib.Dec.{eqb}
use borrow.Author.Tests.{eq-eqb, ne_eqb}
use Rattle.location.specs.declared.Location.{Location}
use Rattle.record.specs.declared.Key.{Key}
use Rattle.record.specs.declared.Service.{Service}
use Rattle.record.specs.Layout.{as_record, two_at, is_free, service_in, location_in, direction_in, set_in}
use Rattle.record.specs.Classes.{meet}
use Rattle.record.specs.Matching.{same_service, matching}
use Rattle.record.specs.Gone.{one_record}
use Rattle.record.proofs.AsRecord.{one_as_record}
use Rattle.record.proofs.matching.matches.Goals as goal

module _ (k : Key) (r : List ℕ) where
  abbrev used : Bool
  used = not (is_free r)

  abbrev service : Bool
  service = same_service (service_in r) k.service

  abbrev code : Bool
  code = eqb (two_at r 4) k.location.code

  abbrev country : Bool
  country = eqb (location_in r).country k.location.country

  abbrev table : Bool
  table = eqb (location_in r).ltn k.location.ltn

  abbrev direction : Bool
  direction = eqb (direction_in r) k.direction

  abbrev shared : Bool
  shared = meet k.classes.0 (set_in r)

  other_code : (two_at r 4 ≡ k.location.code → ⊥) → matching k r ≡ false
  unfolding matching
  other_code ne = ap (λ (b : Bool). used && (service && ((b && (country && table)) && (direction && shared)))) (ne_eqb _ _ ne) ∙ first used service
    where
      first : (u s : Bool) → u && (s && false) ≡ false
      first true true = refl
      first true false = refl
      first false s = refl

  -- the same tests in the order of the code
  same_code : two_at r 4 ≡ k.location.code → (((used && service) && (country && (table && code))) && direction) && shared ≡ matching k r
  unfolding matching
  same_code e = regroup used service country table code direction shared (eq-eqb _ _ e)
    where
      regroup : (u s a b c d t : Bool) → c ≡ true → (((u && s) && (a && (b && c))) && d) && t ≡ u && (s && ((c && (a && b)) && (d && t)))
      regroup u s a b false d t h = absurd (cc)
      regroup false s a b true d t h = refl
      regroup true false a b true d t h = refl
      regroup true true false b true d t h = refl
      regroup true true true false true d t h = refl
      regroup true true true true true d t h = refl

-- a free record matches nothing
as_one : (k : Key) (r : List ℕ) → one_record (matching k) r ≡ matching k (as_record r)
unfolding matching
as_one k r = one_as_record r (matching k) refl

pub returns-then-two-key : goal.returns-then-two-key
returns-then-two-key c =
    let a = c.args in
    let code = c.two.ensures ∙ ap (λ (l : List ℕ). two_at l 4) c.as_record-bytes.ensures in
    sym (as_one a.key a.r.now ∙ other_code a.key (as_record a.r.now) (λ e. c.if-two-key.true (code ∙ e)))

pub returns : goal.returns
returns c =
    let a = c.args in
    let k = a.key in
    let r = as_record a.r.now in
    let bytes : c.as_record-bytes.result.now ≡ r = c.as_record-bytes.ensures in
    let code = sym (c.two.ensures ∙ ap (λ (l : List ℕ). two_at l 4) bytes) ∙ c.if-two-key.false in
    let service : c.eq.result ≡ same_service (service_in r) k.service = c.eq.ensures ∙ ap (λ (s : Service). same_service s k.service) c.service.ensures in
    let location = c.eq-2.ensures ∙ ap (λ (l : Location). eqb l.country k.location.country && (eqb l.ltn k.location.ltn && eqb l.code k.location.code)) c.location.ensures in
    let shared = c.meets.ensures ∙ ap (meet k.classes.0) c.classes.ensures in
    (λ i. (((not (is_free (bytes i)) && service i) && location i) && eqb (direction_in (bytes i)) k.direction) && shared i)
    ∙ same_code k r code
    ∙ sym (as_one k a.r.now)
