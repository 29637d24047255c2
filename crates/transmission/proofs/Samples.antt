-- Sample words and messages, and a plain way to read a message: its event, then the contents of its later groups.
use Prim.Native.Nat.{ℕ}
use mathlib.Core.Path.{◌≡◌, refl}
use mathlib.Core.Bool.{Bool, true}
use mathlib.Core.List.{List, [], ◌∷◌, map}
use Rattle.bits.specs.Bits.{bit, num, bits, val}
use Rattle.bits.specs.Fields.{unpack}
use Rattle.std.specs.Prelude.{Ok}
use Rattle.refusal.specs.declared.Refusal.{Refusal}
use Rattle.word.specs.declared.Word.TheVariants.{Single, First, Later}
use Rattle.word.specs.Format.{head_fields, later_fields}
use Rattle.word.specs.Kind.{kind_of, kind_by, multi_by}
use Rattle.word.specs.Compose.{is_index}
use Rattle.word.specs.Samples.{single101, head101, first401, later401, head401}
use Rattle.word.specs.User.{is_user}
use Rattle.transmission.specs.Reading.{Rules}
use Rattle.transmission.specs.Step.{in_turn, completed, taken, later, step_by, step}
use Rattle.transmission.specs.Calls.{answers, report_then, reports_among}
use Rattle.transmission.specs.Message.{Group, Message, end, next, WellFormed, alone, joined, arrived_of, whole, lost}
use Rattle.transmission.specs.Transmission.{arrivals, due_reports}
use Rattle.transmission.specs.Demand3.{user_words}
use Rattle.transmission.proofs.FewLost.{most_lost}
use Rattle.transmission.proofs.Spacing.{index_by, index_of, clear, spaced}

-- names what the examples compute with
unfoldable pub computing : Unit {0}
unfolding bit num bits val unpack head_fields later_fields kind_of kind_by multi_by is_index is_user in_turn completed taken later step_by step answers report_then reports_among arrived_of whole lost index_by index_of clear spaced arrivals due_reports user_words most_lost
computing = tt

abbrev pub Plain : Type 0
Plain = List ℕ

abbrev pub plain_rules : Rules Plain Refusal
plain_rules = record {
  single = λ duration diversion head. head.event ∷ [];
  multi = λ head contents. Ok (head.event ∷ contents);
  plain = λ refusal. refusal;
}

abbrev pub Formed : Message Plain → Type 0
Formed m = WellFormed plain_rules m.groups m.report

-- the kinds of the words
pub kinds : (kind_of single101 ≡ Single 3 0 head101)
    × (kind_of first401 ≡ First 2 head401)
    × (kind_of later401 ≡ Later 2 1 0 0x3502000)
    × (kind_of 0x01899101F4 ≡ First 1 head401)
    × (kind_of 0x0150000007 ≡ Later 1 1 1 7)
    × (kind_of 0x0100000008 ≡ Later 1 0 0 8)
    × (kind_of 0x04899101F4 ≡ First 4 head401)
    × (kind_of 0x0470000001 ≡ Later 4 1 3 1)
    × (kind_of 0x0420000002 ≡ Later 4 0 2 2)
    × (kind_of 0x0410000003 ≡ Later 4 0 1 3)
    × (kind_of 0x0400000004 ≡ Later 4 0 0 4)
unfolding computing
kinds = (refl, refl, refl, refl, refl, refl, refl, refl, refl, refl, refl)

-- a group, which arrived or not
abbrev sent_word : ℕ → Bool → Group
sent_word n a = record { word = n; arrived = a }

-- a single-group message
abbrev pub sent1 : Bool → Message Plain
sent1 a = record { groups = sent_word single101 a ∷ []; report = 101 ∷ [] }

-- two groups of index 2
abbrev pub sent2 : Bool → Bool → Message Plain
sent2 a b = record { groups = sent_word first401 a ∷ sent_word later401 b ∷ []; report = 401 ∷ 0x3502000 ∷ [] }

-- three groups of index 1
abbrev pub sent3 : Bool → Bool → Bool → Message Plain
sent3 a b c = record { groups = sent_word 0x01899101F4 a ∷ sent_word 0x0150000007 b ∷ sent_word 0x0100000008 c ∷ []; report = 401 ∷ 7 ∷ 8 ∷ [] }

-- five groups of index 4, all of which arrived
abbrev pub sent5 : Message Plain
sent5 = record {
  groups = map (λ n. sent_word n true) (0x04899101F4 ∷ 0x0470000001 ∷ 0x0420000002 ∷ 0x0410000003 ∷ 0x0400000004 ∷ []);
  report = 401 ∷ 1 ∷ 2 ∷ 3 ∷ 4 ∷ [];
}

pub formed1 : (a : Bool) → Formed (sent1 a)
formed1 a = alone kinds.0

pub formed2 : (a b : Bool) → Formed (sent2 a b)
formed2 a b = joined kinds.1 kinds.2 end refl

pub formed3 : (a b c : Bool) → Formed (sent3 a b c)
formed3 a b c = joined kinds.3 kinds.4 (next kinds.5 end) refl

pub formed5 : Formed sent5
formed5 = joined kinds.6 kinds.7 (next kinds.8 (next kinds.9 (next kinds.10 end))) refl
