-- A unit with a header read, computed. Those of document 01 are in `cases`.
use mathlib.Core.Path.{◌≡◌, refl}
use mathlib.Core.List.{[], ◌∷◌}
use lib.IntN.{negsuc}
use Rattle.bits.specs.Bits.{bit, num, bits, val, all_zero}
use Rattle.bits.specs.Fields.{flat, words, unpack}
use Rattle.crc.specs.Register.{shifted, entered, check_word}
use Rattle.lto.specs.Offset.{lto_of}
use Rattle.drm.specs.declared.DataUnit as drm
use Rattle.std.specs.Prelude.{Ok}
use Rattle.crc.specs.Block.{is_checked, checked}
use Rattle.drm.specs.Payload.{ua_flag, aid, header_bits, words_at, unit_of}
use Rattle.drm.specs.Read.{test_fields, test_words, test_payload, test_unit, taken, read_unit}

-- names what reading computes with
unfoldable reading : Unit {0}
unfolding bit num bits val all_zero flat words unpack shifted entered check_word is_checked lto_of ua_flag aid header_bits words_at unit_of test_fields test_words test_payload test_unit taken read_unit
reading = tt

-- a header whose LTO is an hour and a half to the west, and one system word
abbrev pub headed : drm.DataUnit
headed = record { tmchi = 1; id = 5; services = 3; country = 1; ecc = 0xE0; lto = negsuc 2; system = 1; first = 0x0466; second = 0; third = 0 }

-- it, with UA data
pub a_header : read_unit (checked (0x95 ∷ 0xCD ∷ 0x46 ∷ 0x31 ∷ 0xE0 ∷ 0x8D ∷ 0x04 ∷ 0x66 ∷ [])) 0
    ≡ Ok (record { unit = headed; count = 0 })
unfolding reading
a_header = refl
