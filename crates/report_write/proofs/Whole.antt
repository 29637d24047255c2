-- What `write` leaves in a buffer is a whole message: the DRM writer takes it.
use Prim.Native.Nat.{ℕ}
use mathlib.Core.Path.{◌≡◌, sym, subst, ◌∙◌}
use mathlib.Core.List.{List}
use lib.ListN.{length, take}
use Rattle.content.specs.Stored.{limit}
use Rattle.report.specs.declared.Report.{Report}
use Rattle.report.specs.Read.{read_report}
use Rattle.messages.specs.Whole.{Whole}
use Rattle.messages.proofs.Formed.{formed_whole}
use Rattle.std.specs.Prelude.{Ok}
use Rattle.report_write.specs.Write.{write_report, words_after}
use Rattle.report_write.proofs.WayBack.{was_taken, written-words, words-heard, well_formed}

pub written-whole : (ci : ℕ) (r : Report) (out : List ℕ) (n : ℕ) → length r.items.places ≡ limit → write_report ci r (length out) ≡ Ok n
    → Whole read_report (take n (words_after ci r out))
written-whole ci r out n sized w =
    subst (Whole read_report) (words-heard _ ∙ sym (written-words ci r out n w))
    (formed_whole read_report (well_formed ci r sized (was_taken ci r out n w)))
