-- By the kind of event.
use Prim.Native.Nat.{ℕ, ◌+◌, ◌*◌}
use native.Mathlib.Omega.{arith}
use mathlib.Core.Path.{◌≡◌, sym, ap, ap₂, ◌∙◌}
use mathlib.Core.Bool.{true, false, cond, not, ◌&&◌}
use mathlib.Core.List.{List}
use lib.IntN.{ℤ}
use lib.ListN.{get_or}
use mir.Syntax.{w8}
use mir.ValLaws.{to_z-of_z}
use Rattle.std.specs.Prelude.{Result, Ok, Err}
use Rattle.refusal.specs.Checks.{must}
use Rattle.refusal.specs.declared.Refusal.{Refusal}
use Rattle.refusal.specs.declared.Refusal.TheVariants.{NoRoom}
use Rattle.clock.specs.declared.Utc.{Utc}
use Rattle.clock.specs.Expiry.{expiry_answer}
use Rattle.record.specs.declared.Key.{Key}
use Rattle.record.specs.Matching.{matching}
use Rattle.record_report.specs.Made.{record_of, can_make}
use Rattle.lent.specs.declared.catalogue.Kind.{Kind}
use Rattle.lent.specs.declared.catalogue.Kind.TheVariants.{Unknown}
use Rattle.lent.specs.Catalogue.{kind_of, type_of}
use Rattle.lent.proofs.Lents.{table_some, lent_table, lent_whole}
use Rattle.checks.specs.declared.Arrival.{Arrival}
use Rattle.checks.specs.Events.{is_known, entry_for, kind_for, expiry_for}
use Rattle.checks.proofs.Checked.{Checked, checked, life_inside, expiry_is}
use Rattle.table.specs.declared.Answer.TheVariants.{Freed}
use Rattle.table.specs.Steps.{expired_in, after_matching, matched_in, no_room, after_storing}
use Rattle.table.specs.Take.{keeps, storing_answer}
use Rattle.table.proofs.Storable.{can_make_lem}
use Rattle.table.proofs.Takes.{null_way, cancelling_way, ordinary_way}
use Rattle.table.proofs.take.take_checked.Goals as goal
use Rattle.table.proofs.take.take_checked.Goals.{In-Null, In-Unknown, In-Cancelling, In-Ordinary, After-expiry}

-- an event that the checks take is not unknown
never_unknown : (k : Kind) → is_known k ≡ true → k ≡ Unknown → ⊥
never_unknown k known e = let z : true ≡ false = sym known ∙ ap is_known e in absurd (cc)

-- when the report ends, as the clock answers it: nothing is refused
by-life : (t k l : List ℕ) (last : ℕ) (v : Arrival) (lto z : ℤ) (n : ℕ) (x : Result Utc Refusal) → Checked t k l last v lto → z ≡ lto → n ≡ type_of (entry_for k v.report)
    → x ≡ expiry_answer v.minute.0 z (get_or l (8 * n + v.report.duration) 0) → x ≡ Ok (record { 0 = expiry_for k l v lto })
by-life t k l last v lto z n x fine e f g =
    g ∙ ap₂ (λ (y : ℤ) (m : ℕ). expiry_answer v.minute.0 y (get_or l (8 * m + v.report.duration) 0)) e f ∙ expiry_is t k l last v lto fine

never-refused : (e : Refusal) (end : Utc) → Err e ≡ Ok end → ⊥
never-refused e end h = cc

same-end : (end other : Utc) → ◌≡◌ {A = Result Utc Refusal} (Ok end) (Ok other) → end ≡ other
same-end end other h = cc

-- what the clock answered, and the kind
clock-told : (c : After-expiry) → c.expiry.result ≡ Ok (record { 0 = expiry_for c.args.catalogue.now c.args.lives.now c.args.arrival c.args.lto })
clock-told c =
    let a = c.args in
    by-life a.t.now a.catalogue.now a.lives.now a.last.0 a.arrival a.lto _ _ _ (checked a.t.now a.catalogue.now a.lives.now a.last.0 a.arrival a.lto c.requires) (to_z-of_z w8 a.lto c.ranges.lto) (c.duration_type.ensures ∙ ap type_of c.of_event-entry.ensures) c.expiry.ensures

pub returns-in-Unknown : goal.returns-in-Unknown
returns-in-Unknown c =
    let a = c.args in
    let fine = checked a.t.now a.catalogue.now a.lives.now a.last.0 a.arrival a.lto c.requires in
    absurd (never_unknown (kind_for a.catalogue.now a.arrival.report) fine.known (sym (c.kind.ensures ∙ ap kind_of c.of_event-entry.ensures) ∙ c.in-Unknown.is))

pub free_expired-requires : goal.free_expired-requires
free_expired-requires c =
    let a = c.args in
    lent_whole a.t.now a.catalogue.now a.lives.now (checked a.t.now a.catalogue.now a.lives.now a.last.0 a.arrival a.lto c.requires).lent

pub returns-in-Null : goal.returns-in-Null
returns-in-Null c =
    let a = c.args in
    let whole = lent_whole a.t.now a.catalogue.now a.lives.now (checked a.t.now a.catalogue.now a.lives.now a.last.0 a.arrival a.lto c.requires).lent in
    let way = null_way a.t.now a.catalogue.now a.lives.now a.last.0 a.arrival a.lto a.full c.requires whole (sym (c.kind.ensures ∙ ap kind_of c.of_event-entry.ensures) ∙ c.in-Null.is) in
    let f = c.free_expired.ensures in
    record { value = ap Ok f.value ∙ way.0; t_after = f.t_after ∙ way.1 }

pub take_cancelling-requires : goal.take_cancelling-requires
take_cancelling-requires c =
    let a = c.args in
    lent_whole a.t.now a.catalogue.now a.lives.now (checked a.t.now a.catalogue.now a.lives.now a.last.0 a.arrival a.lto c.requires).lent

pub returns-in-Cancelling : goal.returns-in-Cancelling
returns-in-Cancelling c =
    let a = c.args in
    let t = a.t.now in
    let m = a.arrival.minute.0 in
    let whole = lent_whole t a.catalogue.now a.lives.now (checked t a.catalogue.now a.lives.now a.last.0 a.arrival a.lto c.requires).lent in
    let way = cancelling_way t a.catalogue.now a.lives.now a.last.0 a.arrival a.lto a.full c.requires whole (sym (c.kind.ensures ∙ ap kind_of c.of_event-entry.ensures) ∙ c.in-Cancelling.is) in
    let f = c.take_cancelling.ensures in
    let key = c.key_of-key.ensures in
    record {
      value = ap Ok (f.value ∙ ap (λ (x : Key). Freed (expired_in m t) (matched_in m (matching x) t)) key) ∙ way.0;
      t_after = f.t_after ∙ ap (λ (x : Key). after_matching m (matching x) t) key ∙ way.1;
    }

pub bounds-lives-duration_type : goal.bounds-lives-duration_type
bounds-lives-duration_type c =
    let a = c.args in
    omega (arith, c.duration_type.ensures ∙ ap type_of c.of_event-entry.ensures, life_inside a.t.now a.catalogue.now a.lives.now a.last.0 a.arrival a.lto (checked a.t.now a.catalogue.now a.lives.now a.last.0 a.arrival a.lto c.requires))

pub take_ordinary-requires : goal.take_ordinary-requires
take_ordinary-requires c =
    let a = c.args in
    let t = a.t.now in
    let k = a.catalogue.now in
    let l = a.lives.now in
    let v = a.arrival in
    let fine = checked t k l a.last.0 v a.lto c.requires in
    let end = same-end _ _ (sym c.in_ok-expiry-in-Ordinary.was ∙ clock-told (goal.at.take_ordinary-requires c).After-expiry) in
    let ordinary = sym (c.kind.ensures ∙ ap kind_of c.of_event-entry.ensures) ∙ c.in-Ordinary.is in (
      lent_whole t k l fine.lent,
      table_some t (lent_table t k l fine.lent),
      ap₂ (λ (u : Utc) (y : Key). can_make (record { report = v.report; service = v.service; expiry = u }) y.classes.0) end c.key_of-key-in-Ordinary.ensures
          ∙ can_make_lem t k l a.last.0 v a.lto fine ordinary,
    )

pub returns-in_ok-expiry-in-Ordinary : goal.returns-in_ok-expiry-in-Ordinary
returns-in_ok-expiry-in-Ordinary c =
    let a = c.args in
    let t = a.t.now in
    let k = a.catalogue.now in
    let l = a.lives.now in
    let v = a.arrival in
    let m = v.minute.0 in
    let whole = lent_whole t k l (checked t k l a.last.0 v a.lto c.requires).lent in
    let end = same-end _ _ (sym c.in_ok-expiry-in-Ordinary.was ∙ clock-told (goal.at.returns-in_ok-expiry-in-Ordinary c).After-expiry) in
    let way = ordinary_way t k l a.last.0 v a.lto a.full c.requires whole (sym (c.kind.ensures ∙ ap kind_of c.of_event-entry.ensures) ∙ c.in-Ordinary.is) in
    let f = c.take_ordinary.ensures in
    let key = c.key_of-key-in-Ordinary.ensures in
    let made = ap₂ (λ (u : Utc) (y : Key). record_of (record { report = v.report; service = v.service; expiry = u }) y.classes.0) end key in
    record {
      value = f.value ∙ ap (λ (y : Key). must (not (no_room m (matching y) t && keeps a.full)) NoRoom (Ok (storing_answer m (matching y) t))) key ∙ way.0;
      t_after = f.t_after ∙ ap₂ (λ (y : Key) (r : List ℕ). cond (no_room m (matching y) t && keeps a.full) t (after_storing m (matching y) r t)) key made ∙ way.1;
    }

pub returns-in_err-expiry-in-Ordinary : goal.returns-in_err-expiry-in-Ordinary
returns-in_err-expiry-in-Ordinary c = absurd (never-refused _ _ (sym c.in_err-expiry-in-Ordinary.was ∙ clock-told (goal.at.returns-in_err-expiry-in-Ordinary c).After-expiry))
