-- A grid that is too wide is refused.
use mathlib.Core.Path.{refl}
use native.Mathlib.Omega.{arith}
use lib.ListN.{length}
use Rattle.jobs.specs.Words.{job_of}
use Rattle.linked.proofs.Answering.{wide_linked, narrow_linked}
use Rattle.linked.proofs.propose_for.Goals as goal

pub returns-then-columns-gt-COLUMNS : goal.returns-then-columns-gt-COLUMNS
returns-then-columns-gt-COLUMNS c = rw (← wide_linked (length c.args.out.now) c.args.given (job_of c.args.job.words.now) (omega (arith, c.if-columns-gt-COLUMNS.true, c.columns-columns.ensures))) (refl, refl)

pub returns : goal.returns
returns c = rw (← narrow_linked (length c.args.out.now) c.args.given (job_of c.args.job.words.now) (omega (arith, c.if-columns-gt-COLUMNS.false, c.columns-columns.ensures))) c.search_shape.ensures
