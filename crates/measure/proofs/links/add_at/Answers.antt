-- The part stays below 2.1·10^17.
use mathlib.Core.Path.{ap}
use lib.ListN.{set}
use Rattle.whole.proofs.Fits.{fits_by, gives}
use Rattle.measure.proofs.Scattered.{added_fits, added_is}
use Rattle.measure.proofs.links.add_at.Goals as goal

pub overflow_add-parts : goal.overflow_add-parts
overflow_add-parts c = fits_by (added_is c.requires) (added_fits c.requires)

pub returns : goal.returns
returns c = ap (set c.args.parts.now c.args.cell) (gives (added_is c.requires) (added_fits c.requires))
