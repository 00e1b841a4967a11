-- By recursion on x: one byte below 128, else one more than the rest takes.
use Rattle.numbers.proofs.plain.+groups_of.Given as goal

abbrev pub decreases-groups_of : goal.decreases-groups_of
decreases-groups_of l = l.x
