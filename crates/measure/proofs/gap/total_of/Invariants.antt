-- The tally is that of the cells passed, with the start for its total.
use mathlib.Core.Path.{◌≡◌}
use Rattle.jobs.specs.Words.{job_of}
use Rattle.tally.specs.Tally.{tallied_of}
use Rattle.measure.specs.OnWords.{cell_term_on}
use Rattle.measure.proofs.gap.total_of.Given as goal

abbrev pub invariant-loop-i : goal.invariant-loop-i
invariant-loop-i l = ((l.tolerance ≡ (job_of l.p.job.words.now).tolerance) × (l.tally ≡ tallied_of (job_of l.p.job.words.now).tolerance (l.start) (cell_term_on l.p.job.words.now l.p.words.now) l.i))
