-- By recursion on x: one digit below 10, else one more than a tenth of it has.
use Rattle.decimals.proofs.printing.+size.Given as goal

abbrev pub decreases-size : goal.decreases-size
decreases-size l = l.x
