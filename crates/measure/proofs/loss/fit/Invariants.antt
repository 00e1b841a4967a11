-- The total holds the terms of the cells passed.
use mathlib.Core.Path.{◌≡◌}
use Rattle.whole.specs.Sum.{sum}
use Rattle.measure.specs.OnWords.{fit_term_on}
use Rattle.measure.proofs.loss.fit.Given as goal

abbrev pub invariant-loop-i : goal.invariant-loop-i
invariant-loop-i l = (l.total ≡ sum l.i (fit_term_on l.p.job.words.now l.p.words.now))
