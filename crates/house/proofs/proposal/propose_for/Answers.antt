-- A grid that is too wide is refused.
use Rattle.std.proofs.Common.{length, refl, arith}
use Rattle.jobs.specs.Words.{job_of}
use Rattle.house.proofs.Handing.{wide_refused, narrow_proposed}
use Rattle.house.proofs.proposal.propose_for.Goals as goal

pub returns-then-columns-gt-COLUMNS : goal.returns-then-columns-gt-COLUMNS
returns-then-columns-gt-COLUMNS c = rw (← wide_refused (length c.args.out.now) (job_of c.args.job.words.now) (omega (arith, c.if-columns-gt-COLUMNS.true, c.columns-columns.ensures))) (refl, refl)

pub returns : goal.returns
returns c = rw (← narrow_proposed (length c.args.out.now) (job_of c.args.job.words.now) (omega (arith, c.if-columns-gt-COLUMNS.false, c.columns-columns.ensures))) c.propose_shape.ensures
