-- Words that leave a message open, and a state that no calls reach, computed from the promise of the call. The worked words of document 01
-- are in `cases`.
use mathlib.Core.Path.{◌≡◌, refl}
use mathlib.Core.List.{[], ◌∷◌}
use Rattle.bits.specs.Bits.{bit, num, bits, val, all_zero}
use Rattle.bits.specs.Fields.{flat, unpack, fits as in_range}
use Rattle.word.specs.Format.{head_fields, later_fields}
use Rattle.word.specs.Kind.{kind_of, kind_by, multi_by}
use Rattle.word.specs.Compose.{is_index}
use Rattle.word.specs.Samples.{single101, head401}
use Rattle.location.specs.Flt.{flt_fields, is_flt}
use Rattle.content.specs.Widths.{widths, width}
use Rattle.content.specs.Items.{first, labelled, valued, and_then, read_by, items_within, items}
use Rattle.content.specs.Content.{content_length, content}
use Rattle.std.specs.Prelude.{Ok, Err}
use Rattle.refusal.specs.declared.Refusal.TheVariants.{Continuity7, Unfit}
use Rattle.report.specs.declared.Unreadable.TheVariants.{Refused}
use Rattle.report.specs.Report.{first_where}
use Rattle.report.specs.InterRoad.{inter_road, items_at}
use Rattle.report.specs.Read.{placed, read_items, read_bits, read_report}
use Rattle.transmission.specs.Step.{in_turn, completed, taken, later, step_by, step}
use Rattle.transmission.specs.Reachable.{count_fits}
use Rattle.assembler.specs.declared.Assembler.{Assembler}
use Rattle.assembler.specs.declared.Assembler.TheVariants.{Started}
use Rattle.assembler.specs.declared.Answer.TheVariants as answer
use Rattle.assembler.specs.State.{contents_of, state_of, partial_of, assembler_of}
use Rattle.assembler.specs.Fits.{content_fits, partial_fits, fits}
use Rattle.assembler.specs.Answers.{answer_of, leaving}
use Rattle.assembler.specs.Step.{step_of}
use Rattle.assembler.specs.Calls.{calls}
use Rattle.assembler.specs.Samples.{opened401}

-- names what the examples compute with
unfoldable pub computing : Unit {0}
unfolding bit num bits val all_zero flat unpack in_range head_fields later_fields kind_of kind_by multi_by is_index widths width first labelled valued and_then read_by items_within items content_length content first_where flt_fields is_flt inter_road items_at placed read_items read_bits read_report in_turn completed taken later step_by step count_fits contents_of state_of partial_of assembler_of content_fits partial_fits fits answer_of step_of calls
computing = tt

-- a tuning word, an administration word, one of CI 7 and a number that is no word leave the message open
pub other_words : calls read_report opened401 (0x1000000001 ∷ 0x0000000002 ∷ 0x0700000003 ∷ 0x2000000000 ∷ [])
    ≡ leaving opened401 (Ok (answer.Tuning 0x1000000001))
    ∷ leaving opened401 (Ok (answer.Administration 0x0000000002))
    ∷ leaving opened401 (Err (Refused Continuity7))
    ∷ leaving opened401 (Err (Refused Unfit))
    ∷ []
unfolding computing
other_words = refl

-- a state that no calls reach: four later groups of which one is to come
abbrev unreached : Assembler
unreached = Started (record { ci = 2; head = head401; gsi = 1; count = 4; first = 0; second = 0; third = 0 })

pub an_unreached_state : calls read_report unreached (single101 ∷ []) ≡ leaving unreached (Err (Refused Unfit)) ∷ []
unfolding computing
an_unreached_state = refl
