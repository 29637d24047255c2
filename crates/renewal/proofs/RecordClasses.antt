-- Whether a record has classes, by its tests.
use Prim.Native.Nat.{ℕ}
use mathlib.Core.Path.{◌≡◌, ap, ap₂, ◌∙◌}
use mathlib.Core.Bool.{Bool, ◌&&◌, ◌||◌, and_comm}
use mathlib.Core.List.{List}
use Rattle.std.specs.Prelude.{is_ok}
use Rattle.record.specs.Layout.{is_free, event_in}
use Rattle.record_report.specs.Reads.{message_of}
use Rattle.lent.specs.Catalogue.{entry_at, has_class}
use Rattle.renewal.specs.Classes.{classed}

module _ (c r : List ℕ) where
  -- the code looks at the event first, and then at the content
  pub classed_by : (free has : Bool) → is_free r ≡ free → has_class (entry_at c (event_in r)) ≡ has → classed c r ≡ free || has && is_ok (message_of r)
  unfolding classed
  classed_by free has e f =
      ap (λ (b : Bool). is_free r || b) (and_comm (is_ok (message_of r)) (has_class (entry_at c (event_in r)))) ∙ ap₂ (λ (x y : Bool). x || y && is_ok (message_of r)) e f
