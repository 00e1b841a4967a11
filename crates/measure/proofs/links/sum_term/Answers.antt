-- A coefficient of 10 at most times a rate.
use Rattle.whole.proofs.Fits.{fits_by, gives}
use Rattle.measure.proofs.Proposals.{linked}
use Rattle.measure.proofs.Walks.{sum_term_fits, sum_term_is}
use Rattle.measure.proofs.links.sum_term.Goals as goal

pub overflow_mul-result : goal.overflow_mul-result
overflow_mul-result c = fits_by (sum_term_is (linked c.args.p c.requires.0) _ c.requires.1 c.count_at-cell.ensures) (sum_term_fits (linked c.args.p c.requires.0) _ c.requires.1)

pub returns : goal.returns
returns c = gives (sum_term_is (linked c.args.p c.requires.0) _ c.requires.1 c.count_at-cell.ensures) (sum_term_fits (linked c.args.p c.requires.0) _ c.requires.1)
