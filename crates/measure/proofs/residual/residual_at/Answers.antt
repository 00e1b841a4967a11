-- The words of the cell, each in its range.
use Rattle.measure.proofs.Residuals.{residual_call}
use Rattle.measure.proofs.residual.residual_at.Goals as goal

pub residual_from-requires : goal.residual_from-requires
residual_from-requires c = residual_call c.requires c.weight-w.ensures c.crude-u.ensures
