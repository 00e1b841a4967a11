-- The head and the cells are few words.
use native.Mathlib.Omega.{arith}
use Rattle.jobs.proofs.Places.{head_few}
use Rattle.jobs.proofs.words.links_at.Goals as goal

pub overflow_add-result : goal.overflow_add-result
overflow_add-result c = omega (arith, c.head_of-head.ensures, head_few c.args.words.now, c.requires.1)
