-- What is spread are the row's own entries, into zeros.
use Rattle.std.proofs.Common.{◌∙◌}
use Rattle.jobs.specs.Words.{job_of}
use Rattle.house.specs.Held.{spread_of}
use Rattle.house.proofs.Told.{known}
use Rattle.house.proofs.Shaped.{columns_some}
use Rattle.house.proofs.Spread.{row_spread}
use Rattle.house.proofs.grid.Rows.row.Goals as goal

pub returns : goal.returns
returns c = let grid = c.args.self.grid in
    let j = job_of grid.job.words.now in
    let columns = c.columns-columns.ensures in
    let below = c.below_of-below.ensures in
    let beside = c.beside_of-beside.ensures in
    c.spread.ensures ∙ (λ t. spread_of (columns t) (grid.reach_is t) (below t) (beside t) (c.requires.1 t))
    ∙ row_spread j (columns_some (known grid.job)) grid.job.allowed.order_few grid.job.allowed.across_few c.args.i
