-- The two numbers are the front and the system words.
use Prim.Native.Nat.{◌<◌}
use native.Mathlib.Omega.{arith}
use mathlib.Core.Path.{ap, ◌∙◌}
use lib.ListN.{length}
use Rattle.bits.specs.Fields.{words}
use Rattle.lto.proofs.Ranges.{near_field}
use Rattle.drm_write.proofs.Ranges.{short, ranges, start_fits, header-fits}
use Rattle.drm_write.proofs.Fronts.{laid_out}
use Rattle.drm_write.proofs.fill.fill_payload.Goals as goal

pub overflow_sub-system : goal.overflow_sub-system
overflow_sub-system c =
    omega (arith, (ranges c.args.unit _ c.requires.0).system)

pub front_number-requires : goal.front_number-requires
front_number-requires c =
    let ecc : c.args.unit.ecc < 256 = omega arith in (
      start_fits c.args.unit _ c.requires.0,
      header-fits c.args.unit _ c.requires.0 ecc,
      near_field c.args.unit.lto (ranges c.args.unit _ c.requires.0).lto,
    )

pub lay-requires : goal.lay-requires
lay-requires c =
    let u = c.args.unit in
    let w = c.front_width.ensures.value in (
      c.front_width.ensures.few,
      omega (arith, (ranges u _ c.requires.0).system),
      omega (arith, c.requires.1, short u _ c.requires.0),
      omega (arith, c.requires.1, w),
    )

pub returns : goal.returns
returns c =
    let u = c.args.unit in
    let ws = c.args.words.now in
    let ecc : u.ecc < 256 = omega arith in
    let fit = c.requires.0 in
    c.lay.ensures
    ∙ ap (words 8 (length c.args.s.now))
    (laid_out u (start_fits u _ fit) (header-fits u _ fit ecc) ws c.front_width.result c.front_number.result c.system_number.result c.pow2.result
    (ranges u _ fit).system c.front_width.ensures.value c.front_number.ensures c.system_number.ensures c.pow2.ensures)
