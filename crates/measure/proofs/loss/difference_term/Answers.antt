-- A coefficient times a rate.
use Rattle.whole.proofs.Fits.{gives}
use Rattle.measure.proofs.Differences.{difference_term_fits, difference_term_is}
use Rattle.measure.proofs.loss.difference_term.Goals as goal

pub returns : goal.returns
returns c = gives (difference_term_is c.requires.0 c.requires.1) (difference_term_fits c.requires.0 c.requires.1)
