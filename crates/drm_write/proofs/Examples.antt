-- Units written, computed: a header, and whole messages.
use mathlib.Core.Path.{◌≡◌, refl}
use mathlib.Core.List.{[], ◌∷◌}
use lib.ListN.{replicate}
use lib.IntN.{pos}
use Rattle.bits.specs.Bits.{bit, num, bits, val}
use Rattle.bits.specs.Fields.{flat, words, pack}
use Rattle.word.specs.Samples.{single101, first401, later401}
use Rattle.assembler.proofs.Examples.{computing}
use Rattle.crc.specs.Register.{shifted, entered, check_word}
use Rattle.lto.specs.Offset.{lto_field}
use Rattle.messages.specs.Messages.{is_empty, begins, passes, whole_from}
use Rattle.drm.specs.declared.DataUnit as drm
use Rattle.drm.proofs.Examples.{headed}
use Rattle.std.specs.Prelude.{Ok, Err}
use Rattle.refusal.specs.declared.Refusal.TheVariants.{Unfit, SmallBuffer}
use Rattle.drm_write.specs.Write.{bare_fits, headed_fits, header_fits, fields_fit, front_width, unit_fits, can_write, front_bits, payload_bits, unit_bytes, write_unit, bytes_after}

-- names what writing computes with
unfoldable writing : Unit {0}
unfolding computing bit num bits val flat words pack shifted entered check_word lto_field is_empty begins passes whole_from bare_fits headed_fits header_fits fields_fit front_width unit_fits can_write front_bits payload_bits unit_bytes write_unit bytes_after
writing = tt

-- TMCHI 0 and Short ID 0
abbrev bare : drm.DataUnit
bare = record { tmchi = 0; id = 0; services = 0; country = 0; ecc = 0; lto = pos 0; system = 0; first = 0; second = 0; third = 0 }

-- the message of two groups of document 01 behind that header
pub two-groups : (write_unit headed (first401 ∷ later401 ∷ []) 18 ≡ Ok 18) × (bytes_after (Ok 18) headed (first401 ∷ later401 ∷ []) (replicate 19 0xFF)
    ≡ 0x94 ∷ 0x31 ∷ 0xE0 ∷ 0x8D ∷ 0x04 ∷ 0x66 ∷ 0x14 ∷ 0x4C ∷ 0x88 ∷ 0x0F ∷ 0xA0 ∷ 0x90 ∷ 0xD4 ∷ 0x08 ∷ 0x00 ∷ 0x00 ∷ 0xF8 ∷ 0xA2 ∷ 0xFF ∷ [])
unfolding writing
two-groups = (refl, refl)

-- its first group alone stays open, and one more single-group message drops it
pub not-whole : (write_unit headed (first401 ∷ []) 18 ≡ Err Unfit) × (write_unit headed (first401 ∷ single101 ∷ []) 18 ≡ Err Unfit)
unfolding writing
not-whole = (refl, refl)

-- without room, and without a user word or a header
pub not_written : (write_unit bare (single101 ∷ []) 7 ≡ Err SmallBuffer) × (write_unit bare [] 8 ≡ Err Unfit)
unfolding writing
not_written = (refl, refl)
