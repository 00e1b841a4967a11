-- Zeros are lent for the grid's factor, and its ending and values are the job's.
use Rattle.std.proofs.Common.{length, refl}
use lib.Ieee.{of_bits}
use Rattle.jobs.specs.Words.{job_of}
use Rattle.house.proofs.Told.{known}
use Rattle.house.proofs.Shaped.{more_columns}
use Rattle.house.proofs.Solving.{grid_is}
use Rattle.house.proofs.Handing.{ending_is}
use Rattle.house.proofs.proposal.propose_grid.Goals as goal

pub solve_grid-ending-requires : goal.solve_grid-ending-requires
unfolding of_bits
solve_grid-ending-requires c = (rw (← c.cells-n.ensures) c.starts_of-starts.ensures, refl, refl, c.right.ensures)

pub returns : goal.returns
returns c = let j = job_of c.args.grid.job.words.now in
    let solved = c.solve_grid-ending.ensures in
    rw (← ending_is (length c.args.out.now) j (grid_is j (more_columns (known c.args.grid.job) c.requires.0)) solved.0 solved.3) c.on_ending.ensures
