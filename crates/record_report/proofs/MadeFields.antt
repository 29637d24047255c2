-- The fields of a made record are what it was made from.
use Prim.Native.Nat.{ℕ, ◌+◌, ◌*◌, ◌/◌, ◌%◌, ◌^◌, ◌<◌}
use mathlib.Core.Path.{◌≡◌, refl, sym, ap, ap₂, ◌∙◌}
use mathlib.Core.Bool.{Bool, true, ◌&&◌}
use mathlib.Core.List.{List, [], ◌∷◌, ◌++◌, append_assoc}
use native.Mathlib.Omega.{arith}
use lib.ListN.{length, get_or, length-append}
use lib.Seq.{take_at, get_or-append-add}
use borrow.Author.Tests.{eq-eqb}
use Rattle.content.specs.Stored.{listed}
use Rattle.location.specs.declared.Location.{Location}
use Rattle.report.specs.declared.Report.{Report}
use Rattle.report.specs.Record.{bytes_of, groups_of}
use Rattle.record.specs.declared.Service.{Service}
use Rattle.record.specs.Locations.{location_of, head_location, real_location}
use Rattle.record.specs.Layout.{record_size, byte_at, groups_in, service_in, location_in, head_in, real_in, expiry_in, content_in, eight_bytes, set_at, set_in}
use Rattle.record.specs.Classes.{meet}
use Rattle.record.specs.Matching.{matching}
use Rattle.record.proofs.StoredSets.{eight_back}
use Rattle.record_report.specs.declared.Kept.{Kept}
use Rattle.record_report.specs.Made.{front_bytes, tail_bytes, record_of}
use Rattle.record_report.proofs.Contents.{length-bytes}

module _ (k : Kept) (set : ℕ) where
  abbrev r : Report
  r = k.report

  abbrev s : Service
  s = k.service

  abbrev expiry : ℕ
  expiry = k.expiry.0

  abbrev bytes : List ℕ
  bytes = bytes_of (listed r.items)

  abbrev tail : List ℕ
  tail = tail_bytes s (location_of s r) set

  pub length_made : length (record_of k set) ≡ record_size
  unfolding record_of
  length_made = omega (arith, length-append bytes tail, length-bytes (listed r.items))

  pub used_back : byte_at (record_of k set) 0 ≡ 1
  unfolding record_of
  used_back = refl

  pub groups_back : groups_in (record_of k set) ≡ groups_of r
  unfolding record_of
  groups_back = refl

  pub expiry_back : expiry_in (record_of k set) ≡ expiry
  unfolding record_of
  expiry_back = omega arith

  pub content_back : content_in (record_of k set) ≡ bytes_of (listed r.items)
  unfolding record_of
  content_back = take_at bytes tail 14 (length-bytes (listed r.items))

  tail_at : (j : ℕ) → get_or (bytes ++ tail) (14 + j) 0 ≡ get_or tail j 0
  tail_at j = ap (λ (n : ℕ). get_or (bytes ++ tail) (n + j) 0) (sym (length-bytes (listed r.items))) ∙ get_or-append-add bytes tail j 0

  pub set_back : set < 2 ^ 64 → set_in (record_of k set) ≡ set
  unfolding record_of
  set_back small =
      let front = front_bytes (groups_of r) k (location_of s r) in
      let four : List ℕ = 0 ∷ s.country ∷ (location_of s r).country ∷ (location_of s r).ltn ∷ [] in
      let size : length (front ++ (bytes ++ four)) ≡ set_at = omega (arith, length-append bytes four, length-bytes (listed r.items)) in
      ap (λ (l : List ℕ). set_in (front ++ l)) (sym (append_assoc bytes four (eight_bytes set))) ∙ eight_back (front ++ (bytes ++ four)) set size small

  pub country_back : byte_at (record_of k set) 31 ≡ s.country
  unfolding record_of
  country_back = tail_at 1

  pub service_back : service_in (record_of k set) ≡ s
  unfolding record_of
  service_back = λ i. record { country = country_back i; ltn = s.ltn; sid = s.sid }

  pub location_back : location_in (record_of k set) ≡ location_of s r
  unfolding record_of
  location_back =
      let e : (location_of s r).code % 256 + 0x100 * ((location_of s r).code / 256) ≡ (location_of s r).code = omega arith in
      λ i. record { country = tail_at 2 i; ltn = tail_at 3 i; code = e i }

  pub head_back : head_in (record_of k set) ≡ record { direction = r.head.direction; extent = r.head.extent; event = r.head.event; location = head_location s (location_of s r) }
  unfolding record_of
  head_back =
      let e : r.head.event % 256 + 0x100 * (r.head.event / 256) ≡ r.head.event = omega arith in
      let l = ap₂ head_location service_back location_back in
      λ i. record { direction = r.head.direction; extent = r.head.extent; event = e i; location = l i }

  pub real_back : real_in (record_of k set) ≡ real_location s (location_of s r)
  real_back = ap₂ real_location service_back location_back

  -- it matches by its own service, location and direction and a class of its own
  pub made_matches : (classes : ℕ) → meet classes (set_in (record_of k set)) ≡ true → matching (record { service = s; location = location_of s r; direction = r.head.direction; classes = record { 0 = classes } }) (record_of k set) ≡ true
  unfolding matching record_of
  made_matches classes shared =
      let both : (a b : Bool) → a ≡ true → b ≡ true → a && b ≡ true = λ a b x y. ap₂ (λ (u v : Bool). u && v) x y in
      let same-location = both _ _ (eq-eqb _ _ (ap (λ (l : Location). l.code) location_back)) (both _ _ (eq-eqb _ _ (ap (λ (l : Location). l.country) location_back)) (eq-eqb _ _ (ap (λ (l : Location). l.ltn) location_back))) in
      both _ _ (both _ _ (eq-eqb _ _ country_back) (both _ _ (eq-eqb s.ltn s.ltn refl) (eq-eqb s.sid s.sid refl))) (both _ _ same-location (both _ _ (eq-eqb r.head.direction r.head.direction refl) shared))
