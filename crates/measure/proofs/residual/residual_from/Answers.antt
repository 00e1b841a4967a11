-- Each step by its bound; a residual is at most 6.92·10^12.
use Rattle.whole.proofs.Fits.{fits_by, gives}
use Rattle.measure.proofs.Residuals.{all_fits, all_is, fit_fits, fit_is}
use Rattle.measure.proofs.residual.residual_from.Goals as goal

pub overflow_mul-result-2 : goal.overflow_mul-result-2
overflow_mul-result-2 c = fits_by (fit_is c.requires) (fit_fits c.requires)

pub overflow_add-result : goal.overflow_add-result
overflow_add-result c = fits_by (all_is c.requires) (all_fits c.requires)

pub returns : goal.returns
returns c = gives (all_is c.requires) (all_fits c.requires)
