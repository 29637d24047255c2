-- The old fault of docs/DEMAND3.md, replayed: after a drop-out the tail of one message arrives while the head of another of its
-- continuity index was the last multi-group word heard. A transmission that meets every condition of demand 3, and what follows.
use Prim.Native.Nat.{ℕ}
use mathlib.Core.Path.{◌≡◌, refl}
use mathlib.Core.Bool.{Bool, true, false}
use mathlib.Core.List.{List, [], ◌∷◌}
use lib.Dec.{lit<}
use Rattle.std.specs.Prelude.{Ok, Err}
use Rattle.refusal.specs.declared.Refusal.TheVariants.{OutOfTurn}
use Rattle.report.specs.declared.Unreadable.TheVariants.{Refused}
use Rattle.word.specs.declared.Head.{Head}
use Rattle.word.specs.Samples.{single101, head101, first401, later401, head401}
use Rattle.content.specs.Stored.{filled}
use Rattle.report.specs.declared.Report.{Report}
use Rattle.report.specs.declared.Form.TheVariants.{Multi}
use Rattle.report.specs.Read.{read_report}
use Rattle.report.specs.Samples.{report101, report401}
use Rattle.transmission.specs.Message.{Message, WellFormed, end, alone, joined}
use Rattle.transmission.proofs.Samples.{computing as transmitting}
use Rattle.transmission.proofs.FewLost.{few-lost}
use Rattle.transmission.proofs.Spacing.{by_test}
use Rattle.assembler.specs.declared.Assembler.TheVariants.{Empty}
use Rattle.assembler.specs.declared.Answer.TheVariants.{Nothing}
use Rattle.assembler.specs.Reading.{rules}
use Rattle.assembler.specs.Answers.{leaving, reporting}
use Rattle.assembler.specs.Calls.{calls, reports_of}
use Rattle.assembler.specs.Samples.{opened401}
use Rattle.assembler.proofs.Examples.{computing}
use Rattle.assembler.proofs.Demand3.{demand3}

-- a multi-group report with one item, a duration
abbrev lasting : Head → ℕ → Report
lasting head duration = record { form = Multi; head = head; real = 0; diversion = 0; duration = duration; items = filled (record { label = 0; value = duration } ∷ []) }

-- the closure: its first group arrives
abbrev closure : Message Report
closure = record { groups = record { word = first401; arrived = true } ∷ record { word = later401; arrived = false } ∷ []; report = report401 }

-- a single-group message
abbrev other : Bool → Message Report
other heard = record { groups = record { word = single101; arrived = heard } ∷ []; report = report101 }

-- a message about another road, of the closure's index: its second group arrives
abbrev elsewhere : Message Report
elsewhere = record { groups = record { word = 0x02D0653039; arrived = false } ∷ record { word = 0x0240A00000; arrived = true } ∷ []; report = lasting head101 5 }

-- five messages between the two, of which one is heard
abbrev sent : List (Message Report)
sent = closure ∷ other false ∷ other false ∷ other true ∷ other false ∷ other false ∷ elsewhere ∷ []

abbrev heard : List ℕ
heard = first401 ∷ single101 ∷ 0x0240A00000 ∷ []

abbrev Formed : Message Report → Type 0
Formed m = WellFormed (rules read_report) m.groups m.report

formed_closure : Formed closure
unfolding computing
formed_closure = joined {ci = 2} {gsi = 0} {c = 0x3502000} {head = head401} refl refl end refl

formed_other : (b : Bool) → Formed (other b)
unfolding computing
formed_other b = alone {duration = 3} {diversion = 0} {head = head101} refl

formed_elsewhere : Formed elsewhere
unfolding computing
formed_elsewhere = joined {ci = 2} {gsi = 0} {c = 0x0A00000} {head = head101} refl refl end refl

-- demand 3: the one report is that of the message that arrived whole
pub no_closure : reports_of (calls read_report Empty heard) ≡ report101 ∷ []
unfolding transmitting
no_closure = demand3 read_report sent heard (formed_closure, (formed_other false, (formed_other false, (formed_other true, (formed_other false, (formed_other false, (formed_elsewhere, tt))))))) (by_test 5 sent refl) (few-lost 5 sent (lit< tt)) refl

-- call by call: nothing yet; the report of the single word, which drops the open message; refusal 5
pub call_by_call : calls read_report Empty heard ≡ leaving opened401 (Ok Nothing) ∷ reporting report101 ∷ leaving Empty (Err (Refused OutOfTurn)) ∷ []
unfolding computing
call_by_call = refl

-- the closure's head with the other message's tail reads as a report like any other: its content does not give the fault away
pub looks_right : read_report head401 (0x0A00000 ∷ []) ≡ Ok (lasting head401 5)
unfolding computing
looks_right = refl

-- and where no word between the two is heard the calls cannot tell either: such a loss holds five messages
pub nothing_between : calls read_report Empty (first401 ∷ 0x0240A00000 ∷ []) ≡ leaving opened401 (Ok Nothing) ∷ reporting (lasting head401 5) ∷ []
unfolding computing
nothing_between = refl
