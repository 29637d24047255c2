-- The arms that take more than one row, by the cases of `sign_is`.
use Rattle.std.proofs.Common.{◌∙◌, sym, arith}
use borrow.Author.Tests.{lt-ltb, le-ltb}
use Rattle.telephone.proofs.Signs.{sign_is}
use Rattle.telephone.proofs.sign.Sign.of_row.Goals as goal

pub returns-in-16-to-28 : goal.returns-in-16-to-28
returns-in-16-to-28 c =
    let r = c.args.row in
    sym (sign_is r c.requires ∙ rw (le-ltb r 15 (omega arith), le-ltb r 16 (omega arith), lt-ltb r 29 (omega arith)))

pub returns-in-33-to-60 : goal.returns-in-33-to-60
returns-in-33-to-60 c =
    let r = c.args.row in
    sym (sign_is r c.requires ∙ rw (le-ltb r 15 (omega arith), le-ltb r 16 (omega arith), le-ltb r 29 (omega arith), le-ltb r 30 (omega arith), le-ltb r 31 (omega arith), le-ltb r 32 (omega arith), le-ltb r 33 (omega arith), lt-ltb r 61 (omega arith)))

pub returns-in-61-to-62 : goal.returns-in-61-to-62
returns-in-61-to-62 c =
    let r = c.args.row in
    sym (sign_is r c.requires ∙ rw (le-ltb r 15 (omega arith), le-ltb r 16 (omega arith), le-ltb r 29 (omega arith), le-ltb r 30 (omega arith), le-ltb r 31 (omega arith), le-ltb r 32 (omega arith), le-ltb r 33 (omega arith), le-ltb r 61 (omega arith), lt-ltb r 63 (omega arith)))
