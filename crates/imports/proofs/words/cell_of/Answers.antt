use mir.Facts.{to_z-of_z}
use Rattle.std.proofs.Common.{arith}
use Rattle.std.proofs.lemmas.Grind.{common_steps}
use Rattle.imports.specs.Imports.{cell_of}
use Rattle.imports.proofs.words.cell_of.Goals as goal

pub returns : goal.returns
unfolding cell_of
returns c = grind (arith, common_steps, to_z-of_z)
