-- A space, and the number after it.
use native.Mathlib.Omega.{arith}
use mathlib.Core.Path.{◌∙◌}
use lib.ListN.{length-set}
use Rattle.line.proofs.Parts.{put_spaced}
use Rattle.line.proofs.parted.put_field.Goals as goal

pub bounds-out-at : goal.bounds-out-at
bounds-out-at c = omega arith

pub put_number-requires : goal.put_number-requires
put_number-requires c = record { fits = rw length-set (omega (arith, c.requires.fits)) }

pub shape_of-out : goal.shape_of-out
shape_of-out c = c.put_number.auto.out ∙ simp length-set

pub returns : goal.returns
returns c = put_spaced c.args.x c.put_number.ensures
