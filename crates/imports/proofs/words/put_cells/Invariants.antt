-- After i turns the words of the first i cells stand there.
use lib.Seq.{sets}
use mathlib.Core.Path.{◌≡◌}
use lib.ListN.{take}
use Rattle.imports.specs.Imports.{cells_of}
use Rattle.imports.proofs.words.put_cells.Given as goal

abbrev pub invariant-loop-i : goal.invariant-loop-i
invariant-loop-i l = l.words ≡ sets l.initial.words 6 (cells_of l.g (take l.i l.exposures) (take l.i l.deaths))
