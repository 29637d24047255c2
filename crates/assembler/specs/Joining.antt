-- The contents of later groups in one run of bits, as the code joins them.
use Rattle.std.specs.Prelude.{ℕ, ◌-◌, cond, ◌++◌, take, ltb}
use Rattle.bits.specs.Bits.{bits}
use Rattle.content.specs.declared.content.Content.{Content}
use Rattle.content.specs.Packing.{group_bits}
use Rattle.content.specs.Halves.{bits_of, content_of}

-- the content of a group before other content bits
unfoldable pub group_before : ℕ → Content → Content
group_before content others = content_of (bits group_bits content ++ take (128 - group_bits) (bits_of others))

-- the content at a position before others, if the position is in use
unfoldable pub put_before : ℕ → ℕ → ℕ → Content → Content
put_before count position content others = cond (ltb position count) (group_before content others) others
