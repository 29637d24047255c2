-- Two shifts up.
use native.Mathlib.Omega.{arith}
use Rattle.content.proofs.Halves.{two_shifts_up}
use Rattle.content.proofs.content.raised.Goals as goal

pub returns : goal.returns
returns c = two_shifts_up c.args.x c.args.w (omega arith)
