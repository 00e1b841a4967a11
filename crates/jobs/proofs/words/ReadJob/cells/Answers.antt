-- n is the count at 2.
use Rattle.jobs.proofs.Counts.{cells_counts}
use Rattle.jobs.proofs.words.ReadJob.cells.Goals as goal

pub count_at-requires : goal.count_at-requires
count_at-requires c = cells_counts c.args.self.allowed c.args.self.laid
