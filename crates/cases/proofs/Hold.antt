-- Every case of the list holds, computed from the definitions.
use Prim.Native.Nat.{ℕ, ◌-◌, ◌*◌, ◌/◌}
use mathlib.Core.Path.{◌≡◌, refl, sym, ap, ◌∙◌}
use mathlib.Core.List.{List}
use lib.ListN.{length}
use Rattle.bits.specs.Bits.{bit, num, bits, val, all_zero}
use Rattle.bits.specs.Fields.{flat, words, unpack}
use Rattle.assembler.proofs.Examples.{computing}
use Rattle.fig.specs.Format.{word_width}
use Rattle.fig.specs.Read.{check_fields, check_head, check_data, read_data, read_fig, words_after}
use Rattle.system.specs.Read.{system_of, system_by}
use Rattle.crc.specs.Register.{shifted, entered, check_word}
use Rattle.crc.specs.Block.{is_checked}
use Rattle.lto.specs.Offset.{lto_of}
use Rattle.drm.specs.Payload.{ua_flag, aid, header_bits, words_at, unit_of}
use Rattle.std.specs.Prelude.{Ok}
use Rattle.drm.specs.declared.Reading.{Reading}
use Rattle.drm.specs.Read.{test_fields, test_words, test_payload, test_unit, taken, read_unit}
use Rattle.drm.proofs.Lengths.{bare-count, not_nine}
use Rattle.clock.specs.Time.{local_of, to_midnight, expiry_of, offset_fits}
use Rattle.clock.specs.Expiry.{expiry_answer}
use Rattle.cases.specs.Case.{AllHold}
use Rattle.cases.specs.Cases.{cases}

-- the number of words by the length, without a header
by_length : (s : List ℕ) (room : ℕ) (r : Reading) → read_unit s room ≡ Ok r → r.unit.tmchi ≡ 0 → (m : ℕ) → length s ≡ m → r.count ≡ ((m - 2) * 8 - 6) / 37
by_length s room r e z m h = sym (bare-count s room r.count r.unit e z).0 ∙ ap (λ (k : ℕ). ((k - 2) * 8 - 6) / 37) h

pub all_hold : AllHold cases
unfolding computing bit num bits val all_zero flat words unpack word_width check_fields check_head check_data read_data read_fig words_after system_of system_by shifted entered check_word is_checked lto_of ua_flag aid header_bits words_at unit_of test_fields test_words test_payload test_unit taken read_unit local_of to_midnight expiry_of offset_fits expiry_answer cases
all_hold = (refl, (refl, (refl, (refl, (refl, (refl, (refl, (refl, (refl, (refl, (refl, (refl, (refl, (refl, (λ s room r e z h. by_length s room r e z 8 h, (λ s room r e h. not_nine s room r.count r.unit e h, (λ s room r e z h. by_length s room r e z 128 h, (refl, (refl, (refl, tt))))))))))))))))))))
