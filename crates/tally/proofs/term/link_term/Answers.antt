-- A product below 2^63.
use Rattle.whole.proofs.Fits.{fits_by, gives}
use Rattle.tally.proofs.Terms.{link_fits, link_is, room_fits, room_is}
use Rattle.tally.proofs.term.link_term.Goals as goal

pub overflow_sub-result : goal.overflow_sub-result
overflow_sub-result c = fits_by (room_is c.requires) (room_fits c.requires)

pub overflow_mul-result : goal.overflow_mul-result
overflow_mul-result c = fits_by (link_is c.requires) (link_fits c.requires)

pub returns : goal.returns
returns c = gives (link_is c.requires) (link_fits c.requires)
