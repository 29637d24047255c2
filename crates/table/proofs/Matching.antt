-- No free record matches.
use Rattle.std.proofs.Common.{◌≡◌, refl, false}
use Rattle.record.specs.declared.Key.{Key}
use Rattle.record.specs.Layout.{free_record}
use Rattle.record.specs.Matching.{matching}

pub never_free : (key : Key) → matching key free_record ≡ false
unfolding matching
never_free key = refl
