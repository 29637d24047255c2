-- The number in the last two bytes is compared with the check word of those before.
use mathlib.Core.Path.{sym}
use Rattle.crc.proofs.Blocks.{no_block, tested}
use Rattle.crc.proofs.block.is_checked.Goals as goal

pub returns-then-s-lt-CHECK_LENGTH : goal.returns-then-s-lt-CHECK_LENGTH
returns-then-s-lt-CHECK_LENGTH c = sym (no_block c.args.s.now c.if-s-lt-CHECK_LENGTH.true).0

pub returns : goal.returns
returns c =
    tested c.args.s.now c.if-s-lt-CHECK_LENGTH.false _ _ c.load.ensures c.check_word.ensures
