-- The needed length is known before anything is written; then the cells, and behind them the links.
use Rattle.measure.proofs.Verdicts.{parted_smoothing}
use Rattle.terms.proofs.listing.list_all.Goals as goal

pub smoothed-requires : goal.smoothed-requires
smoothed-requires c = parted_smoothing c.requires
