-- By recursion on x: the digits of a tenth of it, and the last one after them.
use Rattle.decimals.proofs.printing.+put_number.Given as goal

abbrev pub decreases-put_number : goal.decreases-put_number
decreases-put_number l = l.x
