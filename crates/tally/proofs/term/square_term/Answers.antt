-- Every step is a natural number, and the quotient is rounded up as in `quotient_up`.
use Rattle.whole.proofs.Fits.{fits_by, gives}
use Rattle.tally.proofs.Terms.{four_fits, four_is, less_fits, less_is, over_fits, over_is, quotient_fits, quotient_is, some_divisor, times_fits, times_is}
use Rattle.tally.proofs.term.square_term.Goals as goal

pub overflow_mul-m : goal.overflow_mul-m
overflow_mul-m c = fits_by (four_is c.requires) (four_fits c.requires)

pub overflow_mul-result : goal.overflow_mul-result
overflow_mul-result c = fits_by (times_is c.requires) (times_fits c.requires)

pub overflow_sub-result : goal.overflow_sub-result
overflow_sub-result c = fits_by (less_is c.requires) (less_fits c.requires)

pub overflow_add-result : goal.overflow_add-result
overflow_add-result c = fits_by (over_is c.requires) (over_fits c.requires)

pub nonzero_div-result : goal.nonzero_div-result
nonzero_div-result c = (some_divisor c.requires, fits_by (quotient_is c.requires) (quotient_fits c.requires))

pub returns : goal.returns
returns c = gives (quotient_is c.requires) (quotient_fits c.requires)
