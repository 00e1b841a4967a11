-- After p passes none of them is accepted, and values and multipliers are those of the sequence.
use mathlib.Core.Path.{◌≡◌}
use Rattle.jobs.specs.Words.{job_of}
use Rattle.measure.proofs.Lowest.{Passed}
use Rattle.passes.specs.Hildreth.{after_pass}
use Rattle.passes.specs.OnWords.{state}
use Rattle.linked.proofs.Searching.{rejects}
use Rattle.linked.proofs.search.search.Given as goal

abbrev pub invariant-loop-p : goal.invariant-loop-p
invariant-loop-p l = (state l.v l.y ≡ after_pass (job_of l.job.words.now) l.p) × Passed (rejects (job_of l.job.words.now)) l.p
