-- By the sign of r; a residual is at most 7·10^12, and two rates are at most 10^6 apart.
use Rattle.whole.proofs.Fits.{fits_by}
use Rattle.tally.proofs.Terms.{above_fits, above_is, above_result, below_fits, below_is, below_result, down_fits, down_is, level_result, turned_fits, turned_is, up_fits, up_is}
use Rattle.tally.proofs.term.box_term.Goals as goal

pub overflow_sub-result : goal.overflow_sub-result
overflow_sub-result c = fits_by (up_is c.requires) (up_fits c.requires)

pub overflow_mul-result : goal.overflow_mul-result
overflow_mul-result c = fits_by (above_is c.requires) (above_fits c.requires)

pub returns-then-r-gt0 : goal.returns-then-r-gt0
returns-then-r-gt0 c = above_result c.requires c.if-r-gt0.true

pub overflow_sub-result-then-r-lt0 : goal.overflow_sub-result-then-r-lt0
overflow_sub-result-then-r-lt0 c = fits_by (turned_is c.requires) (turned_fits c.requires)

pub overflow_sub-result-then-r-lt0-2 : goal.overflow_sub-result-then-r-lt0-2
overflow_sub-result-then-r-lt0-2 c = fits_by (down_is c.requires) (down_fits c.requires)

pub overflow_mul-result-then-r-lt0 : goal.overflow_mul-result-then-r-lt0
overflow_mul-result-then-r-lt0 c = fits_by (below_is c.requires) (below_fits c.requires)

pub returns-then-r-lt0 : goal.returns-then-r-lt0
returns-then-r-lt0 c = below_result c.requires c.if-r-lt0.true

pub returns : goal.returns
returns c = level_result c.requires c.if-r-gt0.false c.if-r-lt0.false
