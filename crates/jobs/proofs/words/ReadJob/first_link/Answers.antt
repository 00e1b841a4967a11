-- One word after the count of links.
use native.Mathlib.Omega.{arith}
use Rattle.jobs.proofs.Places.{head_few, start_zero}
use Rattle.jobs.proofs.Counts.{order_counts}
use Rattle.jobs.proofs.words.ReadJob.first_link.Goals as goal

pub links_at-at-requires : goal.links_at-at-requires
links_at-at-requires c = (order_counts c.args.self.allowed c.args.self.laid, omega (arith, c.args.self.allowed.cells_few, c.cells.ensures))

pub overflow_add-result : goal.overflow_add-result
overflow_add-result c = omega (arith, c.links_at-at.ensures, head_few c.args.self.words.now, c.args.self.allowed.cells_few, c.cells.ensures)

pub returns : goal.returns
returns c = omega (arith, c.links_at-at.ensures, start_zero c.args.self.words.now, c.cells.ensures)
