-- After l links that hold, the tally is that of their terms, the parts are theirs, and s is where the next one starts (`Along`).
use mathlib.Core.Path.{◌≡◌}
use Rattle.jobs.specs.Words.{job_of}
use Rattle.measure.proofs.Walks.{Along}
use Rattle.measure.proofs.links.walk.Given as goal

abbrev pub invariant-loop-l : goal.invariant-loop-l
invariant-loop-l l = ((l.tolerance ≡ (job_of l.p.job.words.now).tolerance) × Along l.p.job.words.now l.p.words.now l.initial.parts l.l l.s l.tally l.parts)
