-- The cells passed lie in their boxes.
use Rattle.measure.proofs.Lowest.{Passed}
use Rattle.measure.specs.OnWords.{in_box_on}
use Rattle.measure.proofs.boxes.lowest_outside.Given as goal

abbrev pub invariant-loop-i : goal.invariant-loop-i
invariant-loop-i l = Passed (in_box_on l.p.job.words.now l.p.words.now) l.i
