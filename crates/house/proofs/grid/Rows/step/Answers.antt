-- Row j of the band, and the step that it gives.
use Rattle.std.proofs.Common.{ℕ, ◌-◌, ap, arith}
use lib.Ieee.{of_bits}
use Rattle.jobs.specs.Words.{job_of}
use Rattle.house.proofs.Told.{known, cells_few}
use Rattle.house.proofs.Places.{reach_few}
use Rattle.house.proofs.Steps.{blank_part}
use Rattle.house.proofs.Spread.{row_length}
use Rattle.house.proofs.grid.Rows.step.Goals as goal

pub factor_into-requires : goal.factor_into-requires
unfolding of_bits
factor_into-requires c = let grid = c.args.self.grid in
    let k = known grid.job in
    let few = reach_few k grid.columns_few in
    let e = grid.reach_is in
    let low = c.lowest_of-lo.ensures in
    let len = row_length (job_of grid.job.words.now) c.args.j c.row.ensures in
    (omega (arith, c.requires.0, cells_few k), omega arith, c.requires.1, blank_part 48 (ap (λ (k : ℕ). c.args.j - k) low) (omega arith))
