-- Eight bytes and six.
use native.Mathlib.Omega.{arith}
use Rattle.record_report.proofs.Bytes.{low_lt, content-held}
use Rattle.record_report.proofs.read.content.Goals as goal

pub overflow_mul-result : goal.overflow_mul-result
overflow_mul-result c = omega (arith, c.load-low.ensures, low_lt c.args.r.now c.requires)

pub returns : goal.returns
returns c =
    content-held c.args.r.now c.requires c.load-high.result c.load-low.result c.load-high.ensures c.load-low.ensures
