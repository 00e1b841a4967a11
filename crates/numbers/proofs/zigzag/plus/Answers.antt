-- A number below 2^63 is itself as a signed one.
use mir.Facts.{to_z_pos}
use mir.Syntax.{w64}
use Rattle.numbers.proofs.zigzag.plus.Goals as goal

pub returns : goal.returns
returns c = to_z_pos w64 c.requires
