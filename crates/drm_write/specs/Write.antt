-- The bytes of a DRM data unit in a lent buffer (document 01, "DRM"; source 002, clause 5).
use Rattle.std.specs.Prelude.{ℕ, ◌+◌, ◌-◌, ◌*◌, ◌/◌, Bool, ◌&&◌, ◌||◌, cond, List, [], ◌∷◌, ◌++◌, length, take, drop, leb, ltb, eqb, nat_abs, is_some, unwrap_or, Result, Ok, Err}
use Rattle.bits.specs.Bits.{bits}
use Rattle.bits.specs.Fields.{flat, words, pack}
use Rattle.drm.specs.declared.DataUnit.{DataUnit}
use Rattle.crc.specs.Block.{check_length, checked}
use Rattle.refusal.specs.declared.Refusal.{Refusal}
use Rattle.refusal.specs.declared.Refusal.TheVariants.{Unfit, SmallBuffer}
use Rattle.refusal.specs.Checks.{must}
use Rattle.drm.specs.Format.{longest, word_width, system_width, start_width, ua_at, header_width, start_format, header_format}
use Rattle.lto.specs.Offset.{lto_field}
use Rattle.report.specs.Read.{read_report}
use Rattle.messages.specs.Messages.{whole}

-- TMCHI, rfu 0, Short ID
abbrev pub start_values : DataUnit → List ℕ
start_values u = u.tmchi ∷ 0 ∷ u.id ∷ []

-- the field of the LTO; 0 stands for one out of range, which no unit that is written has
abbrev pub offset : DataUnit → ℕ
offset u = unwrap_or (lto_field u.lto) 0

-- number of services, Country, ECC, LTO, m
abbrev pub header_values : DataUnit → List ℕ
header_values u = u.services ∷ u.country ∷ u.ecc ∷ offset u ∷ u.system ∷ []

-- the system words of the struct
abbrev pub system_fields : DataUnit → List ℕ
system_fields u = u.first ∷ u.second ∷ u.third ∷ []

-- without a header there is no field of one, and a user word or more
unfoldable pub bare_fits : DataUnit → ℕ → Bool
bare_fits u n =
    eqb u.services 0 && eqb u.country 0 && eqb u.ecc 0 && eqb (nat_abs u.lto) 0 && eqb u.system 0
    && eqb u.first 0 && eqb u.second 0 && eqb u.third 0 && leb 1 n

-- a header's fields in their ranges, one to three system words, and 0 for those not in use
unfoldable pub headed_fits : DataUnit → Bool
headed_fits u =
    ltb u.services 16 && ltb u.country 16 && is_some (lto_field u.lto) && leb 1 u.system && leb u.system 3
    && (leb 2 u.system || eqb u.second 0) && (leb 3 u.system || eqb u.third 0)

-- the fields that go with TMCHI
unfoldable pub header_fits : DataUnit → ℕ → Bool
header_fits u n = cond (eqb u.tmchi 0) (bare_fits u n) (headed_fits u)

-- TMCHI and Short ID in their ranges, and these
unfoldable pub fields_fit : DataUnit → ℕ → Bool
fields_fit u n = ltb u.tmchi 2 && ltb u.id 16 && header_fits u n

-- the bits before the system words, and before the user words
unfoldable pub front_width : DataUnit → ℕ
front_width u = cond (eqb u.tmchi 0) start_width (ua_at + header_width)

abbrev pub lead : DataUnit → ℕ
lead u = front_width u + u.system * system_width

-- the bytes before the check word, which padding of 0 to 7 bits makes whole, and all bytes
abbrev pub payload_length : DataUnit → ℕ → ℕ
payload_length u n = (lead u + n * word_width + 7) / 8

abbrev pub unit_length : DataUnit → ℕ → ℕ
unit_length u n = payload_length u n + check_length

-- the fields of a unit with n user words in their ranges, and at most 128 bytes
unfoldable pub unit_fits : DataUnit → ℕ → Bool
unit_fits u n = fields_fit u n && leb (unit_length u n) longest

-- these, and user words that are whole messages
unfoldable pub can_write : DataUnit → List ℕ → Bool
can_write u ws = unit_fits u (length ws) && whole read_report ws

-- the start and, with a header, rfa 0, UA flag 0 and its fields
unfoldable pub front_bits : DataUnit → List Bool
front_bits u = cond (eqb u.tmchi 0) (pack start_format (start_values u)) (pack start_format (start_values u) ++ (bits 2 0 ++ pack header_format (header_values u)))

-- the low bits of two numbers, the user words, and zeros to the end of a byte
abbrev pub laid : ℕ → ℕ → ℕ → ℕ → List ℕ → List Bool
laid front head system messages ws =
    bits front head
    ++ (bits system messages
    ++ (flat word_width ws
    ++ bits ((front + system + length ws * word_width + 7) / 8 * 8 - (front + system + length ws * word_width)) 0))

-- the front, the system words, the user words, the padding (figures 1 and 2)
unfoldable pub payload_bits : DataUnit → List ℕ → List Bool
payload_bits u ws =
    front_bits u
    ++ (flat system_width (take u.system (system_fields u))
    ++ (flat word_width ws
    ++ bits (payload_length u (length ws) * 8 - (lead u + length ws * word_width)) 0))

-- all bytes
unfoldable pub unit_bytes : DataUnit → List ℕ → List ℕ
unit_bytes u ws = checked (words 8 (payload_length u (length ws)) (payload_bits u ws))

-- a unit that a writer refuses, and then too small a buffer
unfoldable pub write_unit : DataUnit → List ℕ → ℕ → Result ℕ Refusal
write_unit u ws room =
    must (can_write u ws) Unfit
    (must (leb (unit_length u (length ws)) room) SmallBuffer
    (Ok (unit_length u (length ws))))

-- the buffer afterwards: the first cells hold the unit and later cells stay; a refusal leaves it
unfoldable pub bytes_after : Result ℕ Refusal → DataUnit → List ℕ → List ℕ → List ℕ
bytes_after (Ok n) u ws out = unit_bytes u ws ++ drop n out
bytes_after (Err e) u ws out = out
