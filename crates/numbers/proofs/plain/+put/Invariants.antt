-- By recursion on x: each byte is stored at its offset, and the rest after it, as the shortest form has them.
use Rattle.numbers.proofs.plain.+put.Given as goal

abbrev pub decreases-put : goal.decreases-put
decreases-put l = l.x
