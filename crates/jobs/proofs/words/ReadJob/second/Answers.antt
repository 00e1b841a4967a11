-- A grid's own word, or 0.
use mathlib.Core.Path.{sym, ◌∙◌}
use native.Mathlib.Omega.{arith}
use Rattle.jobs.proofs.Places.{head_of_grid, cells_inside}
use Rattle.jobs.proofs.Counts.{order_counts, second_read}
use Rattle.jobs.proofs.Shapes.{second_grid, second_line}
use Rattle.jobs.proofs.words.ReadJob.second.Goals as goal

pub is_grid-requires : goal.is_grid-requires
is_grid-requires c = order_counts c.args.self.allowed c.args.self.laid

pub bounds-self-8 : goal.bounds-self-8
bounds-self-8 c = omega (arith, head_of_grid c.args.self.words.now (sym c.is_grid.ensures ∙ c.if-is_grid.true), cells_inside c.args.self.laid)

pub returns-then-is_grid : goal.returns-then-is_grid
returns-then-is_grid c = second_read c.args.self.allowed c.args.self.laid (sym c.is_grid.ensures ∙ c.if-is_grid.true) ∙ sym (second_grid c.args.self.words.now (sym c.is_grid.ensures ∙ c.if-is_grid.true))

pub returns : goal.returns
returns c = sym (second_line c.args.self.words.now (sym c.is_grid.ensures ∙ c.if-is_grid.false))
