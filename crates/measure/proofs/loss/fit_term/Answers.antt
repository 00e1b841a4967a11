-- A weight times the square of a distance of at most 1,000,000.
use Rattle.whole.proofs.Fits.{fits_by, gives}
use Rattle.measure.proofs.Proposals.{given}
use Rattle.measure.proofs.Losses.{fit_fits, fit_is, square_fits, square_is}
use Rattle.measure.proofs.loss.fit_term.Goals as goal

pub overflow_mul-result : goal.overflow_mul-result
overflow_mul-result c = fits_by (square_is (given c.args.p) _ c.requires c.crude-u.ensures c.weight-w.ensures) (square_fits (given c.args.p) _ c.requires c.crude-u.ensures c.weight-w.ensures)

pub overflow_mul-result-2 : goal.overflow_mul-result-2
overflow_mul-result-2 c = fits_by (fit_is (given c.args.p) _ c.requires c.crude-u.ensures c.weight-w.ensures) (fit_fits (given c.args.p) _ c.requires c.crude-u.ensures c.weight-w.ensures)

pub returns : goal.returns
returns c = gives (fit_is (given c.args.p) _ c.requires c.crude-u.ensures c.weight-w.ensures) (fit_fits (given c.args.p) _ c.requires c.crude-u.ensures c.weight-w.ensures)
