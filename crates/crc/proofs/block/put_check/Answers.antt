-- The check word of the bytes before is put into the last two.
use mathlib.Core.Path.{sym}
use Rattle.crc.proofs.Blocks.{no_block, put-behind}
use Rattle.crc.proofs.block.put_check.Goals as goal

pub returns-then-s-lt-CHECK_LENGTH : goal.returns-then-s-lt-CHECK_LENGTH
returns-then-s-lt-CHECK_LENGTH c = sym (no_block c.args.s.now c.if-s-lt-CHECK_LENGTH.true).1

pub returns : goal.returns
returns c =
    put-behind c.args.s.now c.if-s-lt-CHECK_LENGTH.false _ _ c.check_word-check.ensures c.store.ensures
