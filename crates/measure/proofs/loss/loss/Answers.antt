-- The fit and the roughness, each in its range.
use Rattle.whole.proofs.Fits.{fits_by, gives}
use Rattle.measure.proofs.Proposals.{given}
use Rattle.measure.proofs.Directions.{loss_in_64, loss_is}
use Rattle.measure.proofs.loss.loss.Goals as goal

pub overflow_add-result : goal.overflow_add-result
overflow_add-result c = fits_by (loss_is (given c.args.p) c.requires c.fit-part.ensures) (loss_in_64 (given c.args.p))

pub returns : goal.returns
returns c = gives (loss_is (given c.args.p) c.requires c.fit-part.ensures) (loss_in_64 (given c.args.p))
