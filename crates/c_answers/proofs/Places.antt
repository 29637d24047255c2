-- No place is told as none: neither of the assembler's answers nor of a record's.
use Prim.Native.Nat.{ℕ}
use native.Mathlib.Omega.{arith}
use mathlib.Core.Path.{◌≡◌, sym, ap, ◌∙◌}
use mathlib.Core.List.{List}
use Rattle.std.specs.Prelude.{Err}
use Rattle.refusal.specs.declared.Refusal.{Refusal}
use Rattle.report.specs.declared.Unreadable.TheVariants.{Broken}
use Rattle.report.specs.Read.{read_report}
use Rattle.assembler.specs.declared.Assembler.{Assembler}
use Rattle.assembler.specs.Step.{step_of}
use Rattle.assembler.proofs.Broken.{step_breaks}
use Rattle.record_report.specs.Reads.{reading_of}
use Rattle.record_report.proofs.Broken.{record_breaks}
use Rattle.c_answers.specs.Refusals.{not_broken, broken_in}

pub told_apart : (a : Assembler) (word place : ℕ) (refusal : Refusal) → (step_of read_report a word).answer ≡ Err (Broken refusal place) → broken_in (step_of read_report a word).answer ≡ not_broken → ⊥
told_apart a word place refusal e none =
    let is : place ≡ not_broken = sym (ap broken_in e) ∙ none in
    omega (arith, (step_breaks a word place refusal e).inside)

pub record_told_apart : (r : List ℕ) (place : ℕ) (refusal : Refusal) → reading_of r ≡ Err (Broken refusal place) → broken_in (reading_of r) ≡ not_broken → ⊥
record_told_apart r place refusal e none =
    let is : place ≡ not_broken = sym (ap broken_in e) ∙ none in
    omega (arith, (record_breaks r place refusal e).1)
