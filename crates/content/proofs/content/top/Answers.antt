-- Two shifts down.
use native.Mathlib.Omega.{arith}
use Rattle.content.proofs.Halves.{two_shifts_down}
use Rattle.content.proofs.content.top.Goals as goal

pub returns : goal.returns
returns c = two_shifts_down c.args.x c.args.w (omega arith)
