-- A job that is read has at most 2,092 words, so the scratch holds them all.
use Rattle.std.proofs.Common.{length, sym, ◌∙◌}
use Rattle.jobs.proofs.Handed.{scratch_room}
use Rattle.house.proofs.Handing.{part_known, part_proposed}
use Rattle.house.proofs.proposal.propose.Goals as goal

pub slice_bounds-job-end : goal.slice_bounds-job-end
slice_bounds-job-end c = scratch_room c.args.job.now (sym c.read.ensures.0 ∙ c.in_ok-k.was) c.read.ensures.1

pub invariant_of-job : goal.invariant_of-job
invariant_of-job c = let k = part_known c.args.job.now (sym c.read.ensures.0 ∙ c.in_ok-k.was) c.read.ensures.1 in record { allowed = k.allowed; laid = k.laid }

pub returns : goal.returns
returns c = rw (← part_proposed c.args.job.now (sym c.read.ensures.0 ∙ c.in_ok-k.was) c.read.ensures.1 (length c.args.out.now)) c.propose_for.ensures
