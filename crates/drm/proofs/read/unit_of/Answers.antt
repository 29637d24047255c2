-- Each field by division.
use native.Mathlib.Nat.{div-one}
use mathlib.Core.Path.{refl}
use mir.Facts.{to_z-of_z}
use mir.Syntax.{w8}
use mir.Val.{SFits}
use borrow.Author.Rules.{rules}
use Rattle.bits.proofs.Formats.{unpack-bits}
use Rattle.drm.specs.Format.{start_format, header_format}
use Rattle.drm.specs.Payload.{unit_of}
use Rattle.drm.proofs.read.unit_of.Goals as goal

pub returns : goal.returns
unfolding unit_of
returns c =
    let a = c.args in
    let fits : SFits w8 c.half_hours.result = search rules in
    rw (unpack-bits start_format, unpack-bits header_format, div-one a.start, div-one a.header, to_z-of_z fits, c.half_hours.ensures) refl
