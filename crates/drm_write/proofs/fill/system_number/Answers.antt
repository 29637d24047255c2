-- Each word has 16 bits.
use Prim.Native.Nat.{◌<◌}
use native.Mathlib.Omega.{arith}
use Rattle.drm_write.proofs.Fronts.{fields_number}
use Rattle.drm_write.proofs.fill.system_number.Goals as goal

pub returns : goal.returns
returns c =
    let u = c.args.unit in
    let a : u.first < 65536 = omega arith in
    let b : u.second < 65536 = omega arith in
    let d : u.third < 65536 = omega arith in
    fields_number u a b d
