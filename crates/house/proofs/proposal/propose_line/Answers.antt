-- Nothing is lent for the line's factor, and its ending and values are the job's.
use Rattle.std.proofs.Common.{length}
use Rattle.jobs.specs.Words.{job_of}
use Rattle.house.proofs.Told.{known}
use Rattle.house.proofs.Shaped.{one_column}
use Rattle.house.proofs.Solving.{line_is}
use Rattle.house.proofs.Handing.{ending_is}
use Rattle.house.proofs.proposal.propose_line.Goals as goal

pub returns : goal.returns
returns c = let j = job_of c.args.job.words.now in
    let solved = c.solve_line-ending.ensures in
    rw (← ending_is (length c.args.out.now) j (line_is j (one_column (known c.args.job) c.requires.0)) solved.0 solved.3) c.on_ending.ensures
